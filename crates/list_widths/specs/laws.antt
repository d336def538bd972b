-- What is proved of the moves between widths, for callers to cite. Theorems only.
pub mod Narrow
pub mod Checked
pub mod Widths
pub mod Empty
pub mod Wrong

-- What theorems on the moves between widths speak of, and no promise mentions. Definitions only.
pub mod Narrow
pub mod Checked
pub mod Computed
pub mod Wrong

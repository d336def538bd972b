-- What is proved of the sheet, for callers to cite. Theorems only.
pub mod Sheet
pub mod Room
pub mod Wrong

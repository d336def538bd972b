-- What is proved of fields and lines, for callers to cite. Theorems only.
pub mod Fields
pub mod Lines
pub mod Next
pub mod Walk
pub mod Stored
pub mod Written
pub mod Wrong

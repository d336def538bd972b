-- What is proved of a date as text, for callers to cite. Theorems only.
pub mod Steps
pub mod Said
pub mod Written
pub mod Stated
pub mod Unique
pub mod Wrong

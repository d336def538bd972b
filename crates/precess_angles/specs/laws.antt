-- What is proved of the angles of two days, for callers to cite. Theorems only.
pub mod Constants
pub mod Editions
pub mod Wrong

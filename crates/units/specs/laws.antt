-- What is proved of units, for callers to cite. Theorems only.
pub mod Constants
pub mod Nearest
pub mod Wrong

-- What is proved of precession, for callers to cite. Theorems only.
pub mod Constants
pub mod Editions
pub mod Two
pub mod Wrong

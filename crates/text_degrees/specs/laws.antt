-- What is proved of an angle in decimal degrees, for callers to cite. Theorems only.
pub mod Degrees
pub mod Wrong

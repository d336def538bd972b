-- What is proved of a row of nutation, for callers to cite. Theorems only.
pub mod Constants
pub mod Wrong

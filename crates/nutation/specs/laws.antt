-- What is proved of nutation, for callers to cite. Theorems only.
pub mod Wrong

-- What is proved of the table of nutation, for callers to cite. Theorems only.
pub mod Wrong

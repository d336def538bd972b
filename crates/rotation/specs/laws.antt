-- What is proved of the rotation of two days, for callers to cite. Theorems only.
pub mod Two
pub mod Wrong

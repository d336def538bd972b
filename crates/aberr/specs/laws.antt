-- What is proved of aberration, for callers to cite. Theorems only.
pub mod Constants
pub mod Wrong

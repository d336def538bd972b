-- What is proved of the arguments and of a row of aberration, for callers to cite. Theorems only.
pub mod Constants
pub mod Written
pub mod Wrong

-- What is proved of parallax, for callers to cite. Theorems only.
pub mod Constants
pub mod Wrong

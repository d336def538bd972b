-- What is proved of refraction, for callers to cite. Theorems only.
pub mod Constants
pub mod Limits
pub mod Wrong

-- What is proved of arctangent and arcsine, for callers to cite. Theorems only.
pub mod Constants
pub mod Mirror
pub mod Arctangent
pub mod Level
pub mod Arcsine
pub mod Wrong

-- What is proved of the chain, for callers to cite. Theorems only.
pub mod Constants
pub mod Night
pub mod Two
pub mod Point
pub mod Wrong
pub mod Stated

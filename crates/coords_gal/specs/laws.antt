-- What is proved of galactic coordinates, for callers to cite. Theorems only.
pub mod Constants
pub mod Wrong

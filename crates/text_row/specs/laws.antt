-- What is proved of a star's row, for callers to cite. Theorems only.
pub mod Constants
pub mod Nearest
pub mod Place
pub mod Room
pub mod Wrong

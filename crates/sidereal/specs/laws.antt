-- What is proved of sidereal time, for callers to cite. Theorems only.
pub mod Fold
pub mod Constants
pub mod Meeus
pub mod Wrong

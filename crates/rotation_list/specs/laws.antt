-- What is proved of a list under one rotation, for callers to cite. Theorems only.
pub mod Star
pub mod Turned
pub mod ReadBack
pub mod Rotate
pub mod Stated
pub mod Wrong

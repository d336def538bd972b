-- What is proved of the parts of a sight's text, for callers to cite. Theorems only.
pub mod Angle
pub mod Room
pub mod Wrong

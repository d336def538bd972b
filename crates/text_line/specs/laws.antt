-- What is proved of a star's line, for callers to cite. Theorems only.
pub mod Room
pub mod Wrong

-- What is proved of the figure of the Earth, for callers to cite. Theorems only.
pub mod Constants
pub mod Wrong

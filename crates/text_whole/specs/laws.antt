-- What is proved of whole numbers in decimal, for callers to cite. Theorems only.
pub mod Signed
pub mod ReadBack
pub mod Unique
pub mod Wrong

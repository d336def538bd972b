-- What is proved of signed numbers, for callers to cite. Theorems only.
pub mod Signed
pub mod Wrong

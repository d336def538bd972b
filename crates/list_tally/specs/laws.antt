-- What is proved of the tally, for callers to cite. Theorems only.
pub mod Tally
pub mod Wrong

-- What is proved of writing into a lent slice, and of lists and tests on the way, for callers to cite. Theorems only.
pub mod Writing
pub mod Put
pub mod Upto
pub mod Rows
pub mod Texts
pub mod Walk
pub mod Flags
pub mod Wrong

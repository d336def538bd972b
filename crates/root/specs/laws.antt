-- What is proved of the root, for callers to cite. Theorems only.
pub mod Whole
pub mod Normal
pub mod Tests
pub mod Unique
pub mod Midpoint
pub mod Nearest
pub mod Root
pub mod Cases
pub mod Wrong
pub mod Bits

-- What is proved of the remainder, for callers to cite. Theorems only.
pub mod Whole
pub mod Digits
pub mod Remainder
pub mod Tests
pub mod Exact
pub mod Cases
pub mod Wrong

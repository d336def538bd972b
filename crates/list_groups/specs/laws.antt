-- What is proved of numbers in groups, for callers to cite. Theorems only.
pub mod Tails
pub mod Inverse
pub mod Several
pub mod Fold
pub mod Length
pub mod Order
pub mod Streams
pub mod Taken
pub mod Unique
pub mod Cases
pub mod Wrong

-- What theorems on numbers in groups speak of, and no promise mentions. Definitions only.
pub mod Tail
pub mod Spelt
pub mod Streams
pub mod Wrong

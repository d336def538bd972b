-- What a reader must believe of units, in reading order. Definitions only.
pub mod Degrees
pub mod Nearest

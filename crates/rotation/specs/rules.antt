-- What a reader must believe of the rotation of two days (request xiv), in reading order. Definitions only.
pub mod Matrix
pub mod Turns
pub mod Place

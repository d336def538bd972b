-- What a reader must believe of an angle in decimal degrees. Definitions only.
pub mod Degrees

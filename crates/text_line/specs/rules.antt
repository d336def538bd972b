-- What a reader must believe of a star's line, in reading order. Definitions only.
pub mod Angle
pub mod Line

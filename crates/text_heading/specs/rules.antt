-- What a reader must believe of the parts of a sight's text. Definitions only.
pub mod Angle
pub mod Place
pub mod Edition
pub mod Altitude
pub mod Refusal

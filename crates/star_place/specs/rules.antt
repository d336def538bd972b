-- What a reader must believe of a star's place in radians. Definitions only.
pub mod Place

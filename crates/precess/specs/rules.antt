-- What a reader must believe of precession (section 4), in the crate's order. Definitions only.
pub mod Numbers
pub mod Annual
pub mod Equatorial
pub mod Two

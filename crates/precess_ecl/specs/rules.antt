-- What a reader must believe of precession of the ecliptic (section 4), in the crate's order. Definitions only.
pub mod Numbers
pub mod Ecliptic
pub mod Orbit

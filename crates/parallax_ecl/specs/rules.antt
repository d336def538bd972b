-- What a reader must believe of topocentric ecliptic coordinates (section 4), in the crate's order. Definitions only.
pub mod Ecliptic

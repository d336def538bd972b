-- What a reader must believe of ecliptic coordinates (section 4, with request (ix) of document 02), in the crate's order. Definitions only.
pub mod Arguments
pub mod Point
pub mod Ecliptic

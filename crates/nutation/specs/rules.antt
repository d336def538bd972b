-- What a reader must believe of nutation (section 4), in the crate's order. Definitions only.
pub mod Day
pub mod Point

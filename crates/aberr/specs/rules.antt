-- What a reader must believe of aberration (section 4), in the crate's order. Definitions only.
pub mod Numbers
pub mod Sun
pub mod Star

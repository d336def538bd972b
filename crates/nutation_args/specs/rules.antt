-- What a reader must believe of a row of nutation (section 4), in the crate's order. Definitions only.
pub mod Numbers
pub mod Arguments
pub mod Sum

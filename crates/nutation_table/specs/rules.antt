-- What a reader must believe of the table of nutation (section 4), in the crate's order. Definitions only.
pub mod Rows
pub mod Day

-- What a reader must believe of the angles of two days (section 4), in the crate's order. Definitions only.
pub mod Numbers
pub mod Days
pub mod Equatorial
pub mod Fk4

-- What a reader must believe of parallax (section 4), in the crate's order. Definitions only.
pub mod Numbers
pub mod Horizontal
pub mod Observer
pub mod Equatorial

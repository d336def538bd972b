-- What a reader must believe of arctangent and arcsine (section 2), in the paper's order. Definitions only.
pub mod Series
pub mod Arctangent
pub mod Level
pub mod Arcsine

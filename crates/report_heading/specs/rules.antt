-- What a reader must believe of a sight's text. Definitions only.
pub mod Sight

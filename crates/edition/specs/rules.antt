-- What a reader must believe of the editions. Definitions only.
pub mod Edition

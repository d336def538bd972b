-- What a reader must believe of signed numbers. Definitions only.
pub mod Signed

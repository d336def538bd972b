-- What a reader must believe of whole numbers of 32 bits in decimal. Definitions only.
pub mod Unsigned
pub mod Signed

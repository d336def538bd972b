-- What a reader must believe of a day in decimal. Definitions only.
pub mod Decimal

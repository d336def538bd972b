-- What the laws are proved by, and no promise mentions. Definitions only.
pub mod Fraction
pub mod Range
pub mod Grid
pub mod Greatest
pub mod Count
pub mod WholeDigits
pub mod Computed
pub mod Code
pub mod Stated
pub mod Wrong

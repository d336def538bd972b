-- What is proved of a day in decimal, for callers to cite. Theorems only.
pub mod Decimal
pub mod Unique
pub mod Wrong

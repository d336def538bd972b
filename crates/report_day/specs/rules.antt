-- What a reader must believe of a day's text. Definitions only.
pub mod Digits
pub mod Day

-- What a reader must believe of numbers as text, in reading order. Definitions only.
pub mod Bytes
pub mod Number
pub mod Refused

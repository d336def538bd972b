-- What a reader must believe of calls that answer a list star by star, in reading order. Definitions only.
pub mod Star
pub mod Stored

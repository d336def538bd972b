-- What a reader must believe of an answer handed to a C caller. Definitions only.
pub mod Boundary

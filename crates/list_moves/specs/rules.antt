-- What a reader must believe of the moves between a stored list and a radio list (request i). Definitions only.
pub mod Moves

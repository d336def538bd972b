-- What is proved of the moves, for callers to cite. Theorems only.
pub mod Moves
pub mod RoundTrips
pub mod MovedUp
pub mod Room
pub mod Calls
pub mod Cases
pub mod Empty
pub mod Wrong

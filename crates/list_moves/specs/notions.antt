-- What theorems on the moves speak of, and no promise mentions. Definitions only.
pub mod Moves
pub mod Computed
pub mod Wrong

-- What theorems on the stored list speak of, and no promise mentions. Definitions only.
pub mod Whole
pub mod Put
pub mod Code
pub mod Computed
pub mod Wrong
pub mod Moves
pub mod Still
pub mod Walk

-- What theorems on an angle in decimal degrees speak of, and no promise mentions. Definitions only.
pub mod Code
pub mod Computed
pub mod Wrong

-- What theorems on a day in decimal speak of, and no promise mentions. Definitions only.
pub mod Scale
pub mod Code
pub mod Computed
pub mod Wrong

-- What theorems on units speak of, and no promise mentions. Definitions only.
pub mod Nearest
pub mod Computed
pub mod Wrong

-- What theorems on parallax speak of, and no promise mentions. Definitions only.
pub mod Stated
pub mod Computed
pub mod Wrong

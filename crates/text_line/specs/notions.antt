-- What theorems on a star's line speak of, and no promise mentions. Definitions only.
pub mod Computed
pub mod Wrong

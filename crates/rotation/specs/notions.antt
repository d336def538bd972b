-- What theorems on the rotation speak of, and no promise mentions. Definitions only.
pub mod Computed
pub mod Wrong

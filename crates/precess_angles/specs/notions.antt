-- What theorems on the angles of two days speak of, and no promise mentions. Definitions only.
pub mod Computed
pub mod Editions
pub mod Wrong

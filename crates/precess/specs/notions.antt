-- What theorems on precession speak of, and no promise mentions. Definitions only.
pub mod Computed
pub mod Editions
pub mod Wrong

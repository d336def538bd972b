-- What theorems on numbers as text speak of, and no promise mentions. Definitions only.
pub mod Code
pub mod Computed
pub mod Wrong

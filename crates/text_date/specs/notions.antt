-- What theorems on a date as text speak of, and no promise mentions. Definitions only.
pub mod Written
pub mod Code
pub mod Computed
pub mod Wrong

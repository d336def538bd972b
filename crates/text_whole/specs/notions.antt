-- What theorems on whole numbers in decimal speak of, and no promise mentions. Definitions only.
pub mod Code
pub mod Computed
pub mod Wrong

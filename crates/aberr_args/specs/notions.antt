-- What theorems on the arguments and on a row of aberration speak of, and no promise mentions. Definitions only.
pub mod Computed
pub mod Wrong

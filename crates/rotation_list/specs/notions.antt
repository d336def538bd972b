-- What theorems on a list under one rotation speak of, and no promise mentions. Definitions only.
pub mod Aimed
pub mod Wrong

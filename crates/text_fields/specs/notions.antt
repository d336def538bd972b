-- What theorems on fields and lines speak of, and no promise mentions. Definitions only.
pub mod Plain
pub mod Walk
pub mod Stored
pub mod Computed
pub mod Wrong

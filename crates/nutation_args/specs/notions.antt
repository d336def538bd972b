-- What theorems on a row of nutation speak of, and no promise mentions. Definitions only.
pub mod Computed
pub mod Wrong

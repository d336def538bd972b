-- What theorems on the table of nutation speak of, and no promise mentions. Definitions only.
pub mod Wrong

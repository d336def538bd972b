-- What theorems on signed numbers speak of, and no promise mentions. Definitions only.
pub mod Wrong

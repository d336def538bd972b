-- What theorems on a star's place speak of, and no promise mentions. Definitions only.
pub mod Wrong

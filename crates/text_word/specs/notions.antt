-- What theorems on words speak of, and no promise mentions. Definitions only.
pub mod Wrong

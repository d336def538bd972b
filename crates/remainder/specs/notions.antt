-- What theorems on the remainder speak of, and no promise mentions. Definitions only.
pub mod Steps
pub mod Wrong

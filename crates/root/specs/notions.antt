-- What theorems on the root speak of, and no promise mentions. Definitions only.
pub mod Steps
pub mod Computed
pub mod Wrong

-- What theorems on a refusal in words speak of, and no promise mentions. Definitions only.
pub mod Computed
pub mod Wrong

-- What theorems on a night's report speak of, and no promise mentions. Definitions only.
pub mod Computed
pub mod Wrong

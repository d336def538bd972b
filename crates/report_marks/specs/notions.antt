-- What theorems on a night's marks speak of, and no promise mentions. Definitions only.
pub mod Computed
pub mod Wrong

-- What theorems on the sheet speak of, and no promise mentions. Definitions only.
pub mod Computed
pub mod Wrong

-- What theorems on a night's residuals speak of, and no promise but of inner functions mentions. Definitions only.
pub mod Matched
pub mod Computed
pub mod Wrong

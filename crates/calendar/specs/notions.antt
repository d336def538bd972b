-- What theorems on the calendar speak of, and no promise mentions. Definitions only.
pub mod Closed
pub mod Counted
pub mod Code
pub mod Computed
pub mod Wrong

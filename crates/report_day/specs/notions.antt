-- What theorems on a day's text speak of, and no promise mentions. Definitions only.
pub mod Walk
pub mod Worth
pub mod Computed
pub mod Wrong

-- What theorems on headings speak of, and no promise mentions. Definitions only.
pub mod Computed
pub mod Epoch
pub mod Wrong

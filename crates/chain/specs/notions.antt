-- What theorems on the chain speak of, and no promise mentions. Definitions only.
pub mod Computed
pub mod Still
pub mod Epoch
pub mod Wrong

-- What theorems on arctangent and arcsine speak of, and no promise mentions. Definitions only.
pub mod UpToHalf
pub mod Computed
pub mod Wrong

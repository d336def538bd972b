-- What theorems on sine, cosine and tangent speak of, and no promise mentions. Definitions only.
pub mod Series
pub mod Computed
pub mod Wrong

-- What the theorems are stated by. Definitions only.
pub mod Star
pub mod Answers
pub mod Alike
pub mod Editions
pub mod Pole
pub mod Precession
pub mod Ranges
pub mod Nutation
pub mod Ceiling
pub mod Aberration
pub mod Transit
pub mod Wrong

-- What is proved of a star's place in radians, for callers to cite. Theorems only.
pub mod Constants
pub mod Days
pub mod InRange
pub mod ZeroRates
pub mod Wrong

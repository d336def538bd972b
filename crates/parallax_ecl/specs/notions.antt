-- What theorems on topocentric ecliptic coordinates speak of, and no promise mentions. Definitions only.
pub mod Computed
pub mod Editions
pub mod Wrong

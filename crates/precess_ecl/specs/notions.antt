-- What theorems on precession of the ecliptic speak of, and no promise mentions. Definitions only.
pub mod Computed
pub mod Wrong

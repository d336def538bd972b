-- What is proved of precession of the ecliptic, for callers to cite. Theorems only.
pub mod Constants
pub mod NoInclination
pub mod Wrong

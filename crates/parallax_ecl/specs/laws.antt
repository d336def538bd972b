-- What is proved of topocentric ecliptic coordinates, for callers to cite. Theorems only.
pub mod Editions
pub mod Wrong

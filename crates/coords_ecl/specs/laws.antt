-- What is proved of ecliptic coordinates, for callers to cite. Theorems only.
pub mod Arguments
pub mod Alone
pub mod Wrong

-- What theorems on ecliptic coordinates speak of, and no promise mentions. Definitions only.
pub mod Code
pub mod Alone
pub mod Wrong

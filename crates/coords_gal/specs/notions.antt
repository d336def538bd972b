-- What theorems on galactic coordinates speak of, and no promise mentions. Definitions only.
pub mod Wrong

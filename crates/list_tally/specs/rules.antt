-- What a reader must believe of the tally (sections 5 and 7). Definitions only.
pub mod Status
pub mod Tally

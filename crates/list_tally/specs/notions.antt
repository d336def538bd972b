-- What theorems on the tally speak of, and no promise mentions. Definitions only.
pub mod Wrong

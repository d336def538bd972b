-- What theorems on the parts of a sight's text speak of, and no promise mentions. Definitions only.
pub mod Computed
pub mod Wrong

-- What theorems on the text of a night's sights speak of, and no promise mentions. Definitions only.
pub mod Computed
pub mod Wrong

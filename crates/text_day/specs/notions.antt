-- What theorems on a command's word for a day speak of, and no promise mentions. Definitions only.
pub mod Computed
pub mod Wrong

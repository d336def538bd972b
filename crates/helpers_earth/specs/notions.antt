-- What theorems on the figure of the Earth speak of, and no promise mentions. Definitions only.
pub mod Computed
pub mod Wrong

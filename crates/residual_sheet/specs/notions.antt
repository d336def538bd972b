-- What theorems on a residual and on a residual sheet speak of, and no promise mentions. Definitions only.
pub mod Place
pub mod Sheet
pub mod Accepted
pub mod Computed
pub mod Wrong

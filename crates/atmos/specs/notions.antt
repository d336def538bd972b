-- What theorems on refraction speak of, and no promise mentions. Definitions only.
pub mod Code
pub mod Computed
pub mod Stated
pub mod Wrong

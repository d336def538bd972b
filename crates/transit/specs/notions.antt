-- What theorems on rise, culmination and set speak of, and no promise mentions. Definitions only.
pub mod Stated
pub mod Computed
pub mod Wrong

-- What theorems on a list over the radio link speak of, and no promise mentions. Definitions only.
pub mod Good
pub mod Mark
pub mod StarByStar
pub mod Order
pub mod Room
pub mod Computed
pub mod Wrong

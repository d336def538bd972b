-- What theorems on answers and refusals speak of, and no promise mentions. Definitions only.
pub mod Steps
pub mod Computed
pub mod Code
pub mod Stated
pub mod Varies
pub mod Wrong
pub mod Named

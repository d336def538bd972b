-- What is proved of a list over the radio link, for callers to cite. Theorems only.
pub mod Star
pub mod Mark
pub mod Radio
pub mod Reader
pub mod StarByStar
pub mod Put
pub mod Order
pub mod Streams
pub mod Room
pub mod Unique
pub mod Cases
pub mod Wrong

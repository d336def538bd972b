-- What is proved of the boundary. Theorems only.
pub mod Stored
pub mod Edits
pub mod Residuals
pub mod Sights
pub mod Put
pub mod Radio
pub mod Unique
pub mod Wrong

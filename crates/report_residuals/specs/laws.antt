-- What is proved of a night's residuals and their text. Theorems only.
pub mod Matched
pub mod Report
pub mod Room
pub mod Wrong
pub mod Unique

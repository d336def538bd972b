-- What is proved of the helpers, for callers to cite. Theorems only.
pub mod Constants
pub mod Limit
pub mod Circle
pub mod Wrong

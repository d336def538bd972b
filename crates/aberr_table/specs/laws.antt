-- What is proved of the table and of the Earth's velocity, for callers to cite. Theorems only.
pub mod Constants
pub mod Walk
pub mod Wrong

-- What is proved of a command's word for a day, for callers to cite. Theorems only.
pub mod Constants
pub mod Steps
pub mod Day
pub mod Reason
pub mod Wrong

-- What is proved of what a night's sights give for a mark. Theorems only.
pub mod Wrong
pub mod Unique

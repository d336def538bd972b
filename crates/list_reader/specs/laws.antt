-- What is proved of the reader. Theorems only.
pub mod Unique

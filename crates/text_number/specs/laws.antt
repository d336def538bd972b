-- What is proved of numbers as text, for callers to cite. Theorems only.
pub mod Number
pub mod Wrong

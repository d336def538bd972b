-- What is proved of a refusal in words, for callers to cite. Theorems only.
pub mod Room
pub mod Wrong

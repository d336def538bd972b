-- What is proved of words, for callers to cite. Theorems only.
pub mod Word
pub mod Wrong

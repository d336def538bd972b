-- What is proved of a sight's text. Theorems only.
pub mod Room
pub mod Wrong

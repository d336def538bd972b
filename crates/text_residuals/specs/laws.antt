-- What is proved of the text of residuals. Theorems only.
pub mod Room
pub mod Wrong

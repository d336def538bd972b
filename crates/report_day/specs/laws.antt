-- What is proved of a day's text. Theorems only.
pub mod Walk
pub mod Digits
pub mod Room
pub mod Wrong

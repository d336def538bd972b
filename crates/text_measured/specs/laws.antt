-- What is proved of the text of measured places, for callers to cite. Theorems only.
pub mod Written
pub mod Wrong

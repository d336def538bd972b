-- What is proved of the text of a night's headings, for callers to cite. Theorems only.
pub mod Room
pub mod Wrong

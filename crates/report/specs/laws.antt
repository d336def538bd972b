-- What is proved of the text of a reduced list, for callers to cite. Theorems only.
pub mod Report
pub mod Room
pub mod Wrong

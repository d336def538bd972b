-- What is proved of headings, for callers to cite. Theorems only.
pub mod Night
pub mod Stated
pub mod Wrong

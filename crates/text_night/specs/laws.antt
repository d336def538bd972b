-- What is proved of the text of a night's sights, for callers to cite. Theorems only.
pub mod Wrong

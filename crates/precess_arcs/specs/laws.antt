-- What is proved of the arcs of a place, for callers to cite. Theorems only.
pub mod Arcs

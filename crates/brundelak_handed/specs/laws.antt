-- What is proved of it, for the boundary to cite. Theorems only.
pub mod Boundary
pub mod Unique
pub mod Wrong

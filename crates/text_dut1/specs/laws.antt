-- What is proved of UT1 − UTC as text, for callers to cite. Theorems only.
pub mod Steps
pub mod Small
pub mod ReadBack
pub mod Stated
pub mod Unique
pub mod Wrong

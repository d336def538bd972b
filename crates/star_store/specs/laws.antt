-- What is proved of stored stars, by any rule of a star, for callers to cite. Theorems only.
pub mod Known
pub mod Star
pub mod Status
pub mod ReadBack
pub mod Stored
pub mod StarStored
pub mod Wrong

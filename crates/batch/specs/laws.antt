-- What is proved of the batch, for callers to cite. Theorems only.
pub mod Known
pub mod Star
pub mod ReadBack
pub mod Batch
pub mod Wrong

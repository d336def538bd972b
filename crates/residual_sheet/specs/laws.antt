-- What is proved of a residual and of a residual sheet, for callers to cite. Theorems only.
pub mod Residual
pub mod Parts
pub mod Place
pub mod Merge
pub mod Running
pub mod Bounds
pub mod Residuals
pub mod Wrong

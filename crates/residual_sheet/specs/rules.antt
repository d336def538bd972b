-- What a reader must believe of a residual and of a residual sheet, in reading order. Definitions only.
pub mod Residual
pub mod Entry
pub mod Sheet
pub mod Residuals
pub mod Running

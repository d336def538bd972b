-- What a reader must believe of the mean of a night's headings of one mark, in reading order. Definitions only.
pub mod Residual
pub mod Reference
pub mod Mean
pub mod Spread

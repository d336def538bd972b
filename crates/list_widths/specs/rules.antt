-- The moves between widths as the request writes them. Definitions only.
pub mod Narrow
pub mod Widths

-- What `residuals` prints. Definitions only.
pub mod Figures
pub mod Sheet

-- What holds of headings. Theorems only.
pub mod Circle
pub mod Turn
pub mod Sky
pub mod Heading
pub mod Mark
pub mod WholeTurn
pub mod Mirror
pub mod Declination
pub mod Composed
pub mod Functions
pub mod Refusals
pub mod Wrong

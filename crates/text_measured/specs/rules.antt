-- What a reader must believe of the text of measured places. Definitions only.
pub mod Sight
pub mod Sights

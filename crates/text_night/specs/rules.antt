-- What a reader must believe of the text of a night's sights. Definitions only.
pub mod Sight
pub mod Sights

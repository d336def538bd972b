-- What a reader must believe of the text of a night's headings. Definitions only.
pub mod Sight
pub mod Mean

-- What a reader must believe of words. Definitions only.
pub mod Word

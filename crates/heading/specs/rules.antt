-- What a reader must believe of headings. Definitions only.
pub mod Sky
pub mod Heading
pub mod Mark

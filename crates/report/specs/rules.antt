-- What a reader must believe of the text of a reduced list. Definitions only.
pub mod Report

-- What a reader must believe of fields and lines. Definitions only.
pub mod Fields
pub mod Lines
pub mod Next
pub mod Walk
pub mod Stored

-- What a reader must believe of writing into a lent slice. Definitions only.
pub mod Writing
pub mod Put
pub mod Rows
pub mod Texts

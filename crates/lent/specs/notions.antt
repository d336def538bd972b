-- What theorems on writing into a lent slice speak of, and no promise mentions. Definitions only.
pub mod Put
pub mod Rows
pub mod Walk
pub mod Code
pub mod Wrong

-- What the theorems are stated by. Definitions only.
pub mod Outcome
pub mod Within
pub mod Away

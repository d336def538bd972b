-- What theorems on the rotation speak of. Definitions only.
pub mod Entries
pub mod Star
pub mod Meeus

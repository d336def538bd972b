-- What theorems on the changes of frame speak of, and no promise mentions. Definitions only.
pub mod Editions
pub mod Wrong

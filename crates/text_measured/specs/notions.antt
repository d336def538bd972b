-- What theorems on the text of measured places speak of, and no promise mentions. Definitions only.
pub mod Code
pub mod Computed
pub mod Wrong

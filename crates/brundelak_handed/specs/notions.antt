-- What theorems on an answer handed on speak of, and no promise mentions. Definitions only.
pub mod Wrong

-- What theorems on the text of residuals speak of, and no promise mentions. Definitions only.
pub mod Wrong

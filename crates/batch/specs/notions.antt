-- What theorems on the batch speak of, and no promise mentions. Definitions only.
pub mod Under
pub mod Wrong

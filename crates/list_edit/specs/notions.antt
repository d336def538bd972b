-- What theorems on edits of a list speak of, and no promise mentions. Definitions only.
pub mod Edit
pub mod Ledger
pub mod Computed
pub mod Wrong

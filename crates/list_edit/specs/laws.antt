-- What is proved of edits of a list, for callers to cite. Theorems only.
pub mod Bytes
pub mod First
pub mod Edit
pub mod Gather
pub mod Passes
pub mod Fitting
pub mod Calls
pub mod HowMany
pub mod Balance
pub mod Fill
pub mod Ledger
pub mod Find
pub mod Reader
pub mod Room
pub mod Wrong

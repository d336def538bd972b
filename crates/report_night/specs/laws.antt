-- What is proved of a night's report. Theorems only.
pub mod Report
pub mod Room
pub mod Wrong

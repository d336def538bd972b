-- What is proved of the stored list, for callers to cite. Theorems only.
pub mod Record
pub mod Records
pub mod Stars
pub mod RoundTrips
pub mod Reader
pub mod Writer
pub mod Answer
pub mod Wrong

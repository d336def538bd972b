-- What is proved of the calendar, for callers to cite. Theorems only.
pub mod Constants
pub mod Every
pub mod Closed
pub mod Next
pub mod Distinct
pub mod Rule
pub mod Stated
pub mod Julian
pub mod Taken
pub mod Counted
pub mod Unique
pub mod Wrong

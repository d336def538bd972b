-- What a reader must believe of a command's word for a day. Definitions only.
pub mod Day
pub mod Reason

-- What a reader must believe of a night's report. Definitions only.
pub mod Report

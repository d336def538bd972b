-- What a reader must believe of the Earth's velocity (section 4), in the crate's order; then of the table that is walked. Definitions only.
pub mod Numbers
pub mod Rows
pub mod Velocity
pub mod Table

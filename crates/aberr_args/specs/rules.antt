-- What a reader must believe of the arguments of aberration and of a row of its table (section 4). Definitions only.
pub mod Numbers
pub mod Arguments
pub mod Row

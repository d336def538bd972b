-- What a reader must believe of the stored list (section 7), in the paper's order. Definitions only.
pub mod Record
pub mod Stars
pub mod Reader
pub mod Writer
pub mod Find

-- What a reader must believe of the batch (section 7), in reading order. Definitions only.
pub mod Star
pub mod Batch

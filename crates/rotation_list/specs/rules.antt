-- What a reader must believe of a list under one rotation (request xiv). Definitions only.
pub mod Rotate

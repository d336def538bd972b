-- What a reader must believe of a star's line in the text that `plan` prints, in reading order. Definitions only.
pub mod Time
pub mod Line

-- What a reader must believe of a refusal in words. Definitions only.
pub mod Refusal

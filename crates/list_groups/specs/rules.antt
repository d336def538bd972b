-- What a reader must believe of numbers in groups of seven bits (request i), in the request's order. Definitions only.
pub mod Groups
pub mod Reading
pub mod Several
pub mod Fold
pub mod Read

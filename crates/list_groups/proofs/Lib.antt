pub mod Steps
pub mod Writing
pub mod Halves

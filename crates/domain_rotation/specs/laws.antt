-- What holds of the rotation of two days, and of stars under it. Theorems only.
pub mod Matrix
pub mod Place
pub mod Star
pub mod Stated
pub mod Meeus

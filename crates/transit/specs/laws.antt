-- What is proved of rise, culmination and set, for callers to cite. Theorems only.
pub mod Limits
pub mod Exactly
pub mod Clock
pub mod Plan
pub mod Wrong

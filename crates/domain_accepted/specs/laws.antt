-- What is known of arguments that are accepted, and how that goes through the work to an answer. Both `conditions` and `domain` rest on
-- it. Theorems only.
pub mod Accepted
pub mod Near
pub mod Neighbours
pub mod Cosine
pub mod Outcome
pub mod Elementary
pub mod Horizon

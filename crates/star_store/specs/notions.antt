-- What theorems on stored stars speak of, and no promise of a call mentions. Definitions only.
pub mod Accepted
pub mod StarStored
pub mod Status
pub mod Stated
pub mod Wrong

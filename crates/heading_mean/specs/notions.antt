-- What theorems on the mean of headings speak of, and no promise mentions. Definitions only.
pub mod Accepted
pub mod Near
pub mod Sum
pub mod Far
pub mod Order
pub mod Arc
pub mod Night
pub mod Computed
pub mod Wrong

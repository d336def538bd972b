-- What is proved of the mean of headings, for callers to cite. Theorems only.
pub mod Constants
pub mod Reference
pub mod Sum
pub mod Grown
pub mod Accepted
pub mod Quotient
pub mod Means
pub mod Answered
pub mod Arc
pub mod Far
pub mod OneOff
pub mod Twenty
pub mod Order
pub mod Legs
pub mod MeanArc
pub mod Spread
pub mod Wrong

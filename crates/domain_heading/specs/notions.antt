-- What theorems on headings speak of. Definitions only.
pub mod Circle
pub mod Sky
pub mod Heading
pub mod Composed
pub mod Mirror
pub mod Refusals
pub mod Wrong

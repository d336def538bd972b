-- What a reader must believe of the chain (section 7). Definitions only. `Chain` is the paper's; `Night` is proved to be the same, and so is each star of `Two`.
pub mod Numbers
pub mod Obliquity
pub mod Chain
pub mod Night
pub mod Two

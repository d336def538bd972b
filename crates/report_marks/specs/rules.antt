-- What a reader must believe of what a night's sights give for a mark. Definitions only.
pub mod Marked

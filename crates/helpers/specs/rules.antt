-- What a reader must believe of the helpers (section 3), in the paper's order. Definitions only.
pub mod Time
pub mod Angle
pub mod Circle

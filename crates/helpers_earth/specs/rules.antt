-- What a reader must believe of the figure of the Earth (section 3). Definitions only.
pub mod Earth

-- What the conditions speak of, and no promise mentions. Definitions only.
pub mod Mirror

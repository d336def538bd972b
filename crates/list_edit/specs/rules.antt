-- What a reader must believe of a list that is edited where it stands (request (xi)). Definitions only.
pub mod Edit

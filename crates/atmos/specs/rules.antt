-- What a reader must believe of refraction (document 02, request (vii)), in the request's order. Definitions only.
pub mod Arcminutes
pub mod Numbers
pub mod Refraction
pub mod Sight

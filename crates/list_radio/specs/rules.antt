-- What a reader must believe of a list over the radio link (request i), in the request's order. Definitions only.
pub mod Star
pub mod Radio
pub mod Reader
pub mod Put

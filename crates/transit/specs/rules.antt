-- What a reader must believe of rise, culmination and set (document 02, request (v)), in the request's order. Definitions only.
pub mod Arc
pub mod RiseCulmSet
pub mod Clock
pub mod Observer

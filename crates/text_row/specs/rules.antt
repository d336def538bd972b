-- What a reader must believe of a star's row in the tables that `reduce --table` and `plan --table` print, in reading order. Definitions only.
pub mod Place
pub mod Row
pub mod PlanRow

-- What a reader must believe of a night's residuals, from the list and the text of measured places to their text. Definitions only.
pub mod Came
pub mod Text
pub mod Report

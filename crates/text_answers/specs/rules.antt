-- What a reader must believe of the text of a list's answers, in reading order. Definitions only.
pub mod Answers

-- What is proved of the text of a list's answers, for callers to cite. Theorems only.
pub mod Answers

-- What a reader must believe of the remainder (section 3), in reading order. Definitions only. The paper's statement is `IsRemainder`: the
-- sign of the first number, and what is left of it over whole numbers.
pub mod Remainder
pub mod Digits

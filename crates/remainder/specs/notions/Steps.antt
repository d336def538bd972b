-- What is known between the steps of the remainder.
use Rattle.std.specs.Prelude.{◌≡◌, true, ℕ, ◌+◌, ◌*◌, ◌^◌, ◌≤◌, ◌<◌, Float}
use Rattle.std.specs.Float.{binary64}
use Rattle.std.specs.Float.Ieee.{to_bits}
use Rattle.double.specs.rules.Operations.{bits}
use Rattle.double.specs.rules.Sign.{size, is_finite}
use Rattle.double.specs.rules.Count.{count}
use Rattle.remainder.specs.rules.Digits.{digits_of, binary_places_of}

-- the pattern without its sign
abbrev pub size_pattern : Float → ℕ
size_pattern x = to_bits binary64 (size x)

-- what the digits and places of a pattern stand for
pub record Counted (b : ℕ) : Type 0 where
  pub is : count (bits b) ≡ digits_of b * 2 ^ binary_places_of b
  pub few : digits_of b < 2 ^ 53
  pub room : binary_places_of b ≤ 2045
  pub some : 0 < b → 0 < digits_of b
  pub sum : b ≡ binary_places_of b * 2 ^ 52 + digits_of b
  -- what has places has a leading digit
  pub led : 0 < binary_places_of b → 2 ^ 52 ≤ digits_of b

-- what is left to the whole numbers: y is finite too, and neither is zero
pub record Divisible (x y : Float) : Type 0 where
  pub finite : is_finite y ≡ true
  pub some : 0 < size_pattern y
  pub first_counts : 0 < count x
  pub second_counts : 0 < count y

-- a pattern counts n
pub record Has (n : ℕ) : Type 0 where
  pub pattern : ℕ
  pub small : pattern < 2047 * 2 ^ 52
  pub is : count (bits pattern) ≡ n

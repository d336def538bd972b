-- The points k / 2^(j + 1). Where k has no more digits than the format, such a point is one of its values.
use Rattle.std.specs.Prelude.{◌≡◌, ℕ, suc, ◌*◌, ◌^◌, false, Float}
use Rattle.std.specs.Float.{Format}
use Rattle.std.specs.Float.Ieee.{round}
use Rattle.std.specs.Float.Ieee.Positive.{den}
use Rattle.double.specs.rules.Order.{Finite}
use Rattle.double.specs.notions.Fraction.{plus_part, minus_part}

abbrev pub grid : Format → ℕ → ℕ → Float
grid f j k = round f false (k * 1) (2 ^ suc j)

-- z is the fraction a / c
pub record Parts (z : Float) (a c : ℕ) : Type 0 where
  pub finite : Finite z
  pub none : minus_part z ≡ 0
  pub some : plus_part z * c ≡ a * den z

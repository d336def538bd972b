-- A double that is a whole number of either sign, in two parts.
use Rattle.std.specs.Prelude.{ℕ, ◌+◌, ◌*◌, ◌≡◌, Float}
use Rattle.std.specs.Float.Ieee.Positive.{den}
use Rattle.double.specs.rules.Order.{Finite}
use Rattle.double.specs.notions.Fraction.{plus_part, minus_part}

-- x is a − b
pub record IsSum (x : Float) (a b : ℕ) : Type 0 where
  pub finite : Finite x
  pub value : plus_part x + b * den x ≡ minus_part x + a * den x

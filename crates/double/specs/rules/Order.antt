-- Where a double lies, as IEEE 754 compares: −0 equals +0, and every comparison with a NaN fails.
use Rattle.std.specs.Prelude.{Bool, false, not, T, Float}
use Rattle.std.specs.Float.{nan, inf, fin}
use Rattle.std.specs.Float.Ieee.{eq, le}
use Rattle.double.specs.rules.Operations.{zero}
use Rattle.double.specs.rules.Sign.{is_finite}

-- x ≤ y
infix 4 ◌≼◌
abbrev pub ◌≼◌ : Float → Float → Type 0
x ≼ y = T (le x y)

-- zero, of either sign
abbrev pub is_zero : Float → Bool
is_zero x = eq x zero

abbrev pub NonZero : Float → Type 0
NonZero x = T (not (is_zero x))

abbrev pub Finite : Float → Type 0
Finite x = T (is_finite x)

-- x bears a plus sign; a NaN bears none
abbrev pub bears_plus : Float → Bool
bears_plus nan = false
bears_plus (inf s) = not s
bears_plus (fin s m e) = not s

abbrev pub Plus : Float → Type 0
Plus x = T (bears_plus x)

-- z lies from a to b, and all three are finite
pub record Between (a b z : Float) : Type 0 where
  pub start : Finite a
  pub end : Finite b
  pub finite : Finite z
  pub from : a ≼ z
  pub to : z ≼ b

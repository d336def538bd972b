-- At most a whole number in size, and what is known of an angle and of answers of two and three numbers.
use Rattle.std.specs.Prelude.{ℕ, Float}
use Rattle.std.specs.Float.Ieee.{neg}
use Rattle.double.specs.rules.Order.{Finite, Between}
use Rattle.double.specs.rules.Table.{over}
use Rattle.quantity.specs.declared.Rad.{Rad}
use Rattle.quantity.specs.declared.EqPoint.{EqPoint}
use Rattle.quantity.specs.rules.Angle.{HALF}
use Rattle.quantity.specs.rules.Answer.{Pair, first, second, Triple, triple}

-- what is known of an angle by its number
abbrev pub Angle : (Float → Type 0) → Rad → Type 0
Angle P x = P x.0

abbrev pub Within : ℕ → Float → Type 0
Within n x = Between (neg (over n 1)) (over n 1) x

-- a longitude of 64.0 at most, and a latitude of a quarter turn at most
abbrev pub IsPlace : Pair → Type 0
IsPlace p = Within 64 (first p) × Between (neg HALF) HALF (second p)

abbrev pub BothFinite : Pair → Type 0
BothFinite p = Finite (first p) × Finite (second p)

abbrev pub AllFinite : Triple → Type 0
AllFinite (triple x y z) = Finite x × Finite y × Finite z

abbrev pub BothWithin : ℕ → Pair → Type 0
BothWithin n p = Within n (first p) × Within n (second p)

abbrev pub PointFinite : EqPoint → Type 0
PointFinite p = Finite p.asc × Finite p.dec

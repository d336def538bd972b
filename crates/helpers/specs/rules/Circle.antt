-- Degrees on a circle, from 0 to below 360.
use Rattle.std.specs.Prelude.{ℕ, cond, Float}
use Rattle.std.specs.Float.Ieee.{le, lt}
use Rattle.double.specs.rules.Operations.{bits, zero}
use Rattle.double.specs.rules.Sign.{is_finite}
use Rattle.quantity.specs.declared.Deg.{Deg}
use Rattle.quantity.specs.rules.Angle.{deg}
use Rattle.helpers.specs.rules.Angle.{turn_in_degrees, within360}

-- 180.0
abbrev pub half_turn : Float
half_turn = bits 0x4066800000000000

-- a whole turn, which a fold may round to, is 0
unfoldable pub below_turn : Deg → Deg
below_turn x = cond (lt x.0 turn_in_degrees) x (deg zero)

-- folded
unfoldable pub on_circle : Deg → Deg
on_circle x = below_turn (within360 x)

-- 1 where x is not finite, 3 where it is below 0 or not below 360
unfoldable pub circle_refusal : Deg → ℕ
circle_refusal x = cond (is_finite x.0) (cond (le zero x.0) (cond (lt x.0 turn_in_degrees) 0 3) 3) 1

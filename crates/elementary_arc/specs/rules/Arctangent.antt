-- The arctangent of (y, x).
use Rattle.std.specs.Prelude.{ℕ, Bool, cond, ◌&&◌, Float}
use Rattle.std.specs.Float.Ieee.{eq, le}
use Rattle.double.specs.rules.Operations.{bits, zero, one, ◌⊕◌, ◌⊖◌, ◌⊘◌}
use Rattle.double.specs.rules.Sign.{bears_minus, negated_if, size}
use Rattle.quantity.specs.declared.Rad.{Rad}
use Rattle.quantity.specs.rules.Angle.{rad, PI, HALF, QUARTER}
use Rattle.quantity.specs.rules.Answer.{Answer, answered, refused, unless}
use Rattle.quantity.specs.rules.Refusal.{lower, number_refusal}
use Rattle.elementary_arc.specs.rules.Series.{arctangent_series}

-- 0.4142
abbrev pub near : Float
near = bits 0x3fda8240b780346e

-- Atn(v)
abbrev pub atn : Float → Float
atn v = cond (le v near) (arctangent_series v) (QUARTER ⊕ arctangent_series ((v ⊖ one) ⊘ (v ⊕ one)))

-- of two sizes
abbrev pub base : Float → Float → Float
base y x = cond (le y x) (atn (y ⊘ x)) (HALF ⊖ atn (x ⊘ y))

-- where x bears a minus sign, base becomes PI − base
abbrev pub supplement_if : Bool → Float → Float
supplement_if minus b = cond minus (PI ⊖ b) b

-- base's size and y's sign
unfoldable pub arctangent_of : Float → Float → Rad
arctangent_of y x = rad (negated_if (bears_minus y) (size (supplement_if (bears_minus x) (base (size y) (size x)))))

-- of either sign
abbrev pub both_zero : Float → Float → Bool
both_zero y x = eq y zero && eq x zero

-- as other rules use it: 14 where both are zero. What it refuses they refuse
unfoldable pub arctangent_in : Float → Float → Answer Rad
arctangent_in y x = cond (both_zero y x) (refused 14) (answered (arctangent_of y x))

-- called alone: 1
abbrev pub arctangent_refusal : Float → Float → ℕ
arctangent_refusal y x = lower (number_refusal y) (number_refusal x)

-- then 14
unfoldable pub arctangent_rule : Float → Float → Answer Rad
arctangent_rule y x = unless (arctangent_refusal y x) (arctangent_in y x)

-- Wrong variants of the reading of an angle.
use Rattle.std.specs.Prelude.{ℕ, false, cond, List, [], ◌∷◌, eqb}
use Rattle.text_number.specs.rules.Bytes.{minus_sign}
use Rattle.text_decimal.specs.rules.Decimal.{decimal_rule}
use Rattle.text_degrees.specs.rules.Degrees.{Angle, unclear, with_sign, degrees_rule}

-- passed over
abbrev pub minus_lost : List ℕ → Angle
minus_lost [] = unclear
minus_lost (b ∷ text) = cond (eqb b minus_sign) (with_sign false (decimal_rule text)) (degrees_rule (b ∷ text))

-- one sign after the other
abbrev pub two_signs : List ℕ → Angle
two_signs [] = unclear
two_signs (b ∷ text) = cond (eqb b minus_sign) (degrees_rule text) (degrees_rule (b ∷ text))

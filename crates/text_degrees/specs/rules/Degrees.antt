-- An angle in decimal degrees: what a day is made of, digits and at most one point, with a plus or a minus sign in front or none.
use Rattle.std.specs.Prelude.{ℕ, Bool, true, false, cond, List, [], ◌∷◌, eqb, Option, Some, None}
use Rattle.double.specs.rules.Sign.{negated_if}
use Rattle.quantity.specs.declared.Deg.{Deg}
use Rattle.quantity.specs.rules.Angle.{deg}
use Rattle.text_number.specs.rules.Bytes.{plus_sign, minus_sign}
use Rattle.text_decimal.specs.rules.Decimal.{Reading, is, none, decimal_rule}

pub data Angle : Type 0 where
  of : Deg → Angle
  unclear : Angle

abbrev pub shown_read_degrees : Option Deg → Angle
shown_read_degrees (Some x) = of x
shown_read_degrees None = unclear

-- the number behind a sign
unfoldable pub with_sign : Bool → Reading → Angle
with_sign minus (is x) = of (deg (negated_if minus x))
with_sign minus none = unclear

unfoldable pub degrees_rule : List ℕ → Angle
degrees_rule [] = unclear
degrees_rule (b ∷ text) =
    cond (eqb b minus_sign)
    (with_sign true (decimal_rule text))
    (cond (eqb b plus_sign) (with_sign false (decimal_rule text)) (with_sign false (decimal_rule (b ∷ text))))

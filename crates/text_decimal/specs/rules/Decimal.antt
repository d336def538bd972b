-- A day in decimal: digits, and at most one point. The digits as a whole number, up to 2^53, over a power of ten, up to 10^22: both
-- are exact, so that the one division is the only rounding. Anything else is not a day.
use Rattle.std.specs.Prelude.{ℕ, ◌+◌, ◌-◌, ◌*◌, true, false, cond, List, [], ◌∷◌, pos, ◌==◌, nat_le, Float, Option, Some, None}
use Rattle.std.specs.Float.{binary64}
use Rattle.std.specs.Float.Ieee.{of_int, lt}
use Rattle.double.specs.rules.Operations.{bits, one, ◌⊗◌, ◌⊘◌}
use Rattle.text_number.specs.rules.Bytes.{point, digit0, digit9}
use Rattle.text_decimal.specs.declared.Scan.{Scan}

-- 2^53
abbrev pub most : ℕ
most = 9007199254740992

-- 10.0 and 10^22
abbrev pub ten : Float
ten = bits 0x4024000000000000

abbrev pub widest : Float
widest = bits 0x4480f0cf064dd592

-- nothing read yet, and what is not a day
abbrev pub start : Scan
start = record { whole = 0; scale = one; point = false; some = false; clear = true }

abbrev pub unclear : Scan
unclear = record { whole = 0; scale = one; point = false; some = false; clear = false }

-- past the point each digit has a tenth of the worth of the one before
abbrev pub next_scale : Scan → Float
next_scale scan = cond scan.point (scan.scale ⊗ ten) scan.scale

unfoldable pub with_digit : Scan → ℕ → Scan
with_digit scan d =
    cond (nat_le (scan.whole * 10 + d) most)
    (cond (lt widest (next_scale scan))
    unclear
    (record { whole = scan.whole * 10 + d; scale = next_scale scan; point = scan.point; some = true; clear = scan.clear }))
    unclear

unfoldable pub with_point : Scan → Scan
with_point scan =
    cond scan.point unclear (record { whole = scan.whole; scale = scan.scale; point = true; some = scan.some; clear = scan.clear })

unfoldable pub with_byte : Scan → ℕ → Scan
with_byte scan b =
    cond (b == point)
    (with_point scan)
    (cond (nat_le digit0 b) (cond (nat_le b digit9) (with_digit scan (b - digit0)) unclear) unclear)

unfoldable pub scanned : Scan → List ℕ → Scan
scanned scan [] = scan
scanned scan (b ∷ text) = scanned (with_byte scan b) text

-- the one division
abbrev pub value_of : Scan → Float
value_of scan = of_int binary64 (pos scan.whole) ⊘ scan.scale

pub data Reading : Type 0 where
  is : Float → Reading
  none : Reading

abbrev pub shown_decimal : Option Float → Reading
shown_decimal (Some x) = is x
shown_decimal None = none

-- the whole text was clear, and had a digit
unfoldable pub decimal_from : Scan → Reading
decimal_from scan = cond scan.clear (cond scan.some (is (value_of scan)) none) none

unfoldable pub decimal_rule : List ℕ → Reading
decimal_rule text = decimal_from (scanned start text)

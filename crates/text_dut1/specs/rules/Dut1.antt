-- UT1 − UTC in seconds: a plus or a minus sign or none, and digits, as whole milliseconds, 900 at most.
use Rattle.std.specs.Prelude.{ℕ, ◌*◌, Bool, true, false, cond, List, [], ◌∷◌, eqb, leb, ℤ, pos, neg_ℤ, Option, Some, None}
use Rattle.text_number.specs.rules.Bytes.{plus_sign, minus_sign}
use Rattle.text_dut1.specs.declared.Scan.{Scan}
use Rattle.text_dut1.specs.rules.Scan.{most, start, scanned}

pub data Reading : Type 0 where
  is : ℤ → Reading
  none : Reading

abbrev pub shown_dut1 : Option ℤ → Reading
shown_dut1 (Some z) = is z
shown_dut1 None = none

-- n, or −n behind a minus sign
unfoldable pub signed_in : Bool → ℕ → Reading
signed_in minus n = cond (leb n most) (is (cond minus (neg_ℤ (pos n)) (pos n))) none

-- the whole text was clear, and had a digit
unfoldable pub with_sign : Bool → Scan → Reading
with_sign minus scan = cond scan.clear (cond scan.some (signed_in minus (scan.whole * scan.worth)) none) none

unfoldable pub dut1_rule : List ℕ → Reading
dut1_rule [] = none
dut1_rule (b ∷ text) =
    cond (eqb b minus_sign)
    (with_sign true (scanned start text))
    (cond (eqb b plus_sign) (with_sign false (scanned start text)) (with_sign false (scanned start (b ∷ text))))

-- A whole number of 32 bits in decimal: digits alone, at least one, and zeros in front as many as are wanted. Anything else is none.
use Rattle.std.specs.Prelude.{ℕ, ◌+◌, ◌*◌, ◌-◌, true, false, cond, List, [], ◌∷◌, leb, Option, Some, None}
use Rattle.text_number.specs.rules.Bytes.{digit0, digit9}
use Rattle.text_whole.specs.declared.Scan.{Scan}

-- 2^32 − 1
abbrev pub most : ℕ
most = 4294967295

-- nothing read yet, and what is not a number
abbrev pub start : Scan
start = record { whole = 0; some = false; clear = true }

abbrev pub unclear : Scan
unclear = record { whole = 0; some = false; clear = false }

unfoldable pub with_digit : Scan → ℕ → Scan
with_digit scan d =
    cond (leb (scan.whole * 10 + d) most) (record { whole = scan.whole * 10 + d; some = true; clear = scan.clear }) unclear

unfoldable pub with_byte : Scan → ℕ → Scan
with_byte scan b = cond (leb digit0 b) (cond (leb b digit9) (with_digit scan (b - digit0)) unclear) unclear

unfoldable pub scanned : Scan → List ℕ → Scan
scanned scan [] = scan
scanned scan (b ∷ text) = scanned (with_byte scan b) text

pub data Reading (A : Type 0) : Type 0 where
  is : A → Reading A
  none : Reading A

abbrev pub shown : {A : Type 0} → Option A → Reading A
shown (Some x) = is x
shown None = none

-- the whole text was clear, and had a digit
unfoldable pub unsigned_from : Scan → Reading ℕ
unsigned_from scan = cond scan.clear (cond scan.some (is scan.whole) none) none

unfoldable pub unsigned_rule : List ℕ → Reading ℕ
unsigned_rule text = unsigned_from (scanned start text)

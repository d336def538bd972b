-- Digits and at most one point, with at most three digits after it: the digits as a whole number, and the milliseconds that the last of them
-- counts. Anything else is unclear, and so are digits past 900, since none of them can be 0.9 seconds or less.
use Rattle.std.specs.Prelude.{ℕ, ◌+◌, ◌*◌, ◌-◌, ◌/◌, true, false, cond, List, [], ◌∷◌, eqb, leb}
use Rattle.text_number.specs.rules.Bytes.{point, digit0, digit9}
use Rattle.text_dut1.specs.declared.Scan.{Scan}

-- 0.9 s
abbrev pub most : ℕ
most = 900

-- nothing read yet, and what is none
abbrev pub start : Scan
start = record { whole = 0; worth = 1000; point = false; some = false; clear = true }

abbrev pub unclear : Scan
unclear = record { whole = 0; worth = 1000; point = false; some = false; clear = false }

-- past the point each digit has a tenth of the worth of the one before; a fourth has none
abbrev pub next_worth : Scan → ℕ
next_worth scan = cond scan.point (scan.worth / 10) scan.worth

unfoldable pub with_digit : Scan → ℕ → Scan
with_digit scan d =
    cond (leb (scan.whole * 10 + d) most)
    (cond (eqb (next_worth scan) 0)
    unclear
    (record { whole = scan.whole * 10 + d; worth = next_worth scan; point = scan.point; some = true; clear = scan.clear }))
    unclear

unfoldable pub with_point : Scan → Scan
with_point scan =
    cond scan.point unclear (record { whole = scan.whole; worth = scan.worth; point = true; some = scan.some; clear = scan.clear })

unfoldable pub with_byte : Scan → ℕ → Scan
with_byte scan b =
    cond (eqb b point)
    (with_point scan)
    (cond (leb digit0 b) (cond (leb b digit9) (with_digit scan (b - digit0)) unclear) unclear)

unfoldable pub scanned : Scan → List ℕ → Scan
scanned scan [] = scan
scanned scan (b ∷ text) = scanned (with_byte scan b) text

-- Wrong variants of the reading of UT1 − UTC.
use Rattle.std.specs.Prelude.{ℕ, ◌+◌, ◌*◌, ◌-◌, true, false, cond, List, [], ◌∷◌, eqb, pos}
use Rattle.text_number.specs.rules.Bytes.{point, minus_sign, digit0}
use Rattle.text_dut1.specs.declared.Scan.{Scan}
use Rattle.text_dut1.specs.rules.Scan.{start, next_worth, with_digit, with_point, scanned}
use Rattle.text_dut1.specs.rules.Dut1.{Reading, is, none, with_sign, dut1_rule}

abbrev pub minus_ignored : List ℕ → Reading
minus_ignored [] = none
minus_ignored (b ∷ text) = cond (eqb b minus_sign) (with_sign false (scanned start text)) (dut1_rule (b ∷ text))

-- a text of digits and points without a sign, each digit taken in another way
abbrev read_by : (Scan → ℕ → Scan) → Scan → List ℕ → Reading
read_by onDigit scan [] = with_sign false scan
read_by onDigit scan (b ∷ text) = read_by onDigit (cond (eqb b point) (with_point scan) (onDigit scan (b - digit0))) text

-- a digit past it has the worth of the one before
abbrev pub point_ignored : List ℕ → Reading
point_ignored =
    read_by
    (λ (scan : Scan) (d : ℕ).
    record { whole = scan.whole * 10 + d; worth = scan.worth; point = scan.point; some = true; clear = scan.clear })
    start

-- a fourth digit passed over
abbrev pub fourth_digit_cut : List ℕ → Reading
fourth_digit_cut = read_by (λ (scan : Scan) (d : ℕ). cond (eqb (next_worth scan) 0) scan (with_digit scan d)) start

-- any size taken
abbrev pub past_most_taken : List ℕ → Reading
past_most_taken text = let scan = scanned start text in is (pos (scan.whole * scan.worth))

abbrev pub empty_is_nought : List ℕ → Reading
empty_is_nought [] = is (pos 0)
empty_is_nought (b ∷ text) = dut1_rule (b ∷ text)

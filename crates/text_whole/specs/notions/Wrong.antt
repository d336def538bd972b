-- Wrong variants of the reading of whole numbers.
use Rattle.std.specs.Prelude.{ℕ, ◌+◌, ◌*◌, ◌-◌, ◌%◌, true, false, cond, List, [], ◌∷◌, eqb, leb, ℤ}
use Rattle.signed.specs.rules.Signed.{signed_of}
use Rattle.text_number.specs.rules.Bytes.{minus_sign, digit0, digit9}
use Rattle.text_whole.specs.declared.Scan.{Scan}
use Rattle.text_whole.specs.rules.Unsigned.{start, with_byte, Reading, is, none, unsigned_from, unsigned_rule}
use Rattle.text_whole.specs.rules.Signed.{with_sign, signed_rule}

-- a text each of whose bytes is taken in another way
abbrev read_by : (Scan → ℕ → Scan) → Scan → List ℕ → Reading ℕ
read_by onByte scan [] = unsigned_from scan
read_by onByte scan (b ∷ text) = read_by onByte (onByte scan b) text

-- a number past 32 bits without its bits above them
abbrev pub past_most_wrapped : List ℕ → Reading ℕ
past_most_wrapped =
    read_by
    (λ (scan : Scan) (b : ℕ). record { whole = (scan.whole * 10 + (b - digit0)) % 4294967296; some = true; clear = scan.clear })
    start

abbrev pub empty_is_nought : List ℕ → Reading ℕ
empty_is_nought [] = is 0
empty_is_nought (b ∷ text) = unsigned_rule (b ∷ text)

-- what is no digit
abbrev pub letter_passed_over : List ℕ → Reading ℕ
letter_passed_over = read_by (λ (scan : Scan) (b : ℕ). cond (leb b digit9) (with_byte scan b) scan) start

-- up to the first byte that is no digit
abbrev pub rest_ignored : List ℕ → Reading ℕ
rest_ignored = go start
  where
    go : Scan → List ℕ → Reading ℕ
    go scan [] = unsigned_from scan
    go scan (b ∷ text) = cond (leb b digit9) (go (with_byte scan b) text) (unsigned_from scan)

abbrev pub minus_ignored : List ℕ → Reading ℤ
minus_ignored [] = none
minus_ignored (b ∷ text) = cond (eqb b minus_sign) (with_sign false (unsigned_rule text)) (signed_rule (b ∷ text))

-- one sign after the other
abbrev pub two_signs : List ℕ → Reading ℤ
two_signs [] = none
two_signs (b ∷ text) = cond (eqb b minus_sign) (signed_rule text) (signed_rule (b ∷ text))

-- a number past 2^31 − 1 taken for one below zero
abbrev pub past_most_turned : List ℕ → Reading ℤ
past_most_turned text = turned (unsigned_rule text)
  where
    turned : Reading ℕ → Reading ℤ
    turned (is n) = is (signed_of n)
    turned none = none

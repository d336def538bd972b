-- A fraction of a day as text: hours, minutes and seconds. Nothing is folded after the rounding: the last half second before the day's
-- end is 24:00:00, as 1.0 itself is. A text is a list of bytes.
use Rattle.std.specs.Prelude.{ℕ, ◌/◌, ◌%◌, cond, List, ◌∷◌, ◌++◌, ltb, Float}
use Rattle.double.specs.rules.Operations.{bits, half, ◌⊕◌, ◌⊗◌}
use Rattle.double.specs.rules.Whole.{whole_part}
use Rattle.text_number.specs.rules.Bytes.{colon, digit0}
use Rattle.text_number.specs.rules.Number.{decimal_text}

-- 86400.0
abbrev pub seconds_of_day : Float
seconds_of_day = bits 0x40f5180000000000

-- to the nearest second: the whole part of the seconds and a half
abbrev pub seconds_of : Float → ℕ
seconds_of x = whole_part (x ⊗ seconds_of_day ⊕ half)

-- a 0 in front of one digit
unfoldable pub two_digits : ℕ → List ℕ
two_digits n = cond (ltb n 10) (digit0 ∷ decimal_text n) (decimal_text n)

-- zeros in front of fewer than three digits
unfoldable pub three_digits : ℕ → List ℕ
three_digits n = cond (ltb n 100) (digit0 ∷ two_digits n) (decimal_text n)

-- hh:mm:ss of so many seconds
unfoldable pub clock_text : ℕ → List ℕ
clock_text n = two_digits (n / 3600) ++ (colon ∷ (two_digits (n / 60 % 60) ++ (colon ∷ two_digits (n % 60))))

abbrev pub time_text : Float → List ℕ
time_text x = clock_text (seconds_of x)

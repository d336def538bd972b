-- Milliseconds below a second as digits of a second, without a sign.
use Rattle.std.specs.Prelude.{ℕ, ◌+◌, ◌/◌, ◌%◌, List, [], ◌∷◌}
use Rattle.text_number.specs.rules.Bytes.{point, digit0}

-- the byte of the last digit of a number
abbrev pub last : ℕ → ℕ
last n = digit0 + n % 10

abbrev pub tenths : ℕ → List ℕ
tenths n = digit0 ∷ point ∷ last n ∷ []

abbrev pub hundredths : ℕ → List ℕ
hundredths n = digit0 ∷ point ∷ last (n / 10) ∷ last n ∷ []

abbrev pub thousandths : ℕ → List ℕ
thousandths n = digit0 ∷ point ∷ last (n / 100) ∷ last (n / 10) ∷ last n ∷ []

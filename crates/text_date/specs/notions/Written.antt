-- A date and a time as digits.
use Rattle.std.specs.Prelude.{ℕ, ◌+◌, ◌/◌, ◌%◌, List, [], ◌∷◌}
use Rattle.text_number.specs.rules.Bytes.{minus_sign, colon, point, digit0}
use Rattle.text_date.specs.rules.Time.{letter_t, letter_z}

-- the byte of the last digit of a number
abbrev pub last : ℕ → ℕ
last n = digit0 + n % 10

abbrev pub date_text : ℕ → ℕ → ℕ → List ℕ → List ℕ
date_text y m d rest =
    last (y / 1000) ∷ last (y / 100) ∷ last (y / 10) ∷ last y ∷ minus_sign ∷ last (m / 10) ∷ last m ∷ minus_sign ∷ last (d / 10) ∷ last d ∷ rest

abbrev pub clock_text : ℕ → ℕ → ℕ → List ℕ → List ℕ
clock_text h m s rest =
    letter_t ∷ last (h / 10) ∷ last h ∷ colon ∷ last (m / 10) ∷ last m ∷ colon ∷ last (s / 10) ∷ last s ∷ rest

-- the fraction, and the Z
abbrev pub whole_seconds : List ℕ
whole_seconds = letter_z ∷ []

abbrev pub tenths : ℕ → List ℕ
tenths f = point ∷ last f ∷ letter_z ∷ []

abbrev pub hundredths : ℕ → List ℕ
hundredths f = point ∷ last (f / 10) ∷ last f ∷ letter_z ∷ []

abbrev pub thousandths : ℕ → List ℕ
thousandths f = point ∷ last (f / 100) ∷ last (f / 10) ∷ last f ∷ letter_z ∷ []

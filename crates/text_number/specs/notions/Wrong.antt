-- Wrong variants of numbers as text.
use Rattle.std.specs.Prelude.{ℕ, ◌/◌, cond, List, [], ◌∷◌, ◌++◌, ℤ, nat_abs}
use Rattle.signed.specs.rules.Signed.{negative}
use Rattle.text_number.specs.rules.Bytes.{ascii, space}
use Rattle.text_number.specs.rules.Number.{decimal_text}
use Rattle.text_number.specs.rules.Refused.{refused_word}

abbrev pub last_digit_lost : ℕ → List ℕ
last_digit_lost n = decimal_text (n / 10)

abbrev pub plus_for_minus : ℤ → List ℕ
plus_for_minus z = cond (negative z) (ascii "+" ++ decimal_text (nat_abs z)) (decimal_text (nat_abs z))

-- a space for it
abbrev pub refusal_without_line_end : ℕ → List ℕ
refusal_without_line_end n = refused_word ++ (decimal_text n ++ (space ∷ []))

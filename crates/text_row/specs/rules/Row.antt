-- The row of a star: its number, then its place or its refusal, in columns. A text is a list of bytes.
use Rattle.std.specs.Prelude.{ℕ, ◌-◌, cond, List, [], ◌∷◌, ◌++◌, eqb, length, take}
use Rattle.quantity.specs.declared.Rad.{Rad}
use Rattle.text_number.specs.rules.Bytes.{ascii, line_end}
use Rattle.text_number.specs.rules.Number.{decimal_text}
use Rattle.text_refusal.specs.rules.Refusal.{refusal_text}
use Rattle.text_row.specs.rules.Place.{hours_text, degrees_text}

-- a number at the right of a column of ten
unfoldable pub column_text : ℕ → List ℕ
column_text n = take (10 - length (decimal_text n)) (ascii "          ") ++ decimal_text n

-- the second column is as wide as its heading, right ascension
unfoldable pub place_text : Rad → Rad → List ℕ
place_text asc dec = hours_text asc ++ (ascii "     " ++ (degrees_text dec ++ (line_end ∷ [])))

unfoldable pub row_of : ℕ → ℕ → Rad → Rad → List ℕ
row_of number status asc dec =
    column_text number ++ (ascii "  " ++ cond (eqb status 0) (place_text asc dec) (refusal_text status))

-- The residuals of a sight in a line. The six figures of a coordinate in a row, a blank between each two: count, sum, sum of squares,
-- largest size, its place, set aside. Two rows: right ascension's, then declination's.
use Rattle.std.specs.Prelude.{ℕ, List, [], ◌∷◌, ◌++◌, ℤ}
use Rattle.residual_sheet.specs.declared.Residual.{Residual}
use Rattle.residual_sheet.specs.declared.Sheet.{Sheet}
use Rattle.text_number.specs.rules.Bytes.{space, line_end}
use Rattle.text_number.specs.rules.Number.{decimal_text, signed_text, integer_text}
use Rattle.text_number.specs.rules.Refused.{refused_text}

-- a residual, and a byte after it
unfoldable pub residual_then : Residual → ℕ → List ℕ
residual_then x end = signed_text x.minus x.size ++ (end ∷ [])

unfoldable pub decimal_then : ℕ → List ℕ
decimal_then n = decimal_text n ++ (space ∷ [])

-- a sight: its line, its star, the residual of its right ascension and that of its declination
unfoldable pub sight_text : ℕ → ℕ → Residual → Residual → List ℕ
sight_text line star asc dec = decimal_then line ++ (decimal_then star ++ (residual_then asc space ++ residual_then dec line_end))

-- a sight whose star is refused, or is not on the list: the refusal in place of the residuals
unfoldable pub refused_sight_text : ℕ → ℕ → ℕ → List ℕ
refused_sight_text line star n = decimal_then line ++ (decimal_then star ++ refused_text n)

-- a number, and a byte after it
unfoldable pub whole_then : ℤ → ℕ → List ℕ
whole_then z end = integer_text z ++ (end ∷ [])

unfoldable pub row_text : Sheet → List ℕ
row_text s =
    whole_then s.count space
    ++ (whole_then s.sum space
    ++ (whole_then s.squares space
    ++ (whole_then s.largest space ++ (whole_then s.place space ++ whole_then s.aside line_end))))

unfoldable pub figures_text : Sheet → Sheet → List ℕ
figures_text asc dec = row_text asc ++ row_text dec

-- Wrong variants of the text of residuals.
use Rattle.std.specs.Prelude.{ℕ, List, [], ◌∷◌, ◌++◌, ℤ, pos, nat_abs}
use Rattle.double.specs.rules.Whole.{whole_part}
use Rattle.residual_sheet.specs.declared.Sheet.{Sheet}
use Rattle.text_number.specs.rules.Bytes.{line_end}
use Rattle.text_number.specs.rules.Number.{decimal_text, signed_text}
use Rattle.text_refusal.specs.rules.Refusal.{refusal_text}
use Rattle.text_residuals.specs.rules.Figures.{row_text}
use Rattle.text_residuals.specs.rules.Sheet.{quotient_of, mean_minus, mean_text}

-- declination's row first
abbrev pub rows_swapped : Sheet → Sheet → List ℕ
rows_swapped asc dec = row_text dec ++ row_text asc

-- cut off in place of rounded
abbrev pub mean_cut_off : ℤ → ℤ → List ℕ
mean_cut_off sum count =
    let n = whole_part (quotient_of sum count) in
    signed_text (mean_minus sum n) n ++ (line_end ∷ [])

-- without its sign
abbrev pub mean_sized : ℤ → ℤ → List ℕ
mean_sized sum count = mean_text (pos (nat_abs sum)) count

-- a star that is not on the list taken for an empty place of it
abbrev pub ten_as_an_empty_place : ℕ → List ℕ
ten_as_an_empty_place n = refusal_text n

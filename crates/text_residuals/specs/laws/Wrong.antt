-- Wrong variants are excluded: each differs from the rule at the input stated.
use Rattle.std.specs.Prelude.{ℕ, refl, List, ℤ, pos, negsuc, get_or, ◌≢◌}
use Rattle.double.specs.laws.Apart.{apart}
use Rattle.double.specs.notions.Computed as double
use Rattle.units.specs.rules.Nearest.{nearest_whole}
use Rattle.residual_sheet.specs.declared.Sheet.{Sheet}
use Rattle.text_number.specs.rules.Number.{decimal_in, integer_text}
use Rattle.text_refusal.specs.rules.Refusal.{number_words, refusal_text}
use Rattle.text_residuals.specs.rules.Figures.{whole_then, row_text, figures_text}
use Rattle.text_residuals.specs.rules.Sheet.{quotient_of, mean_minus, mean_text, why_left}
use Rattle.text_residuals.specs.notions.Wrong.{rows_swapped, mean_cut_off, mean_sized, ten_as_an_empty_place}

-- a sheet by its count
abbrev counted : ℕ → Sheet
counted n = record { count = pos n; sum = pos 0; squares = pos 0; largest = pos 0; place = pos 0; aside = pos 0 }

-- a text by its first byte
abbrev first : List ℕ → ℕ
first t = get_or t 0 0

pub rows_swapped_excluded : rows_swapped (counted 1) (counted 2) ≢ figures_text (counted 1) (counted 2)
unfolding figures_text row_text whole_then integer_text decimal_in
rows_swapped_excluded = apart first refl

-- two thirds
pub mean_cut_off_excluded : mean_cut_off (pos 2) (pos 3) ≢ mean_text (pos 2) (pos 3)
unfolding double.computed nearest_whole quotient_of mean_minus mean_text decimal_in
mean_cut_off_excluded = apart first refl

pub mean_sized_excluded : mean_sized (negsuc 1) (pos 2) ≢ mean_text (negsuc 1) (pos 2)
unfolding double.computed nearest_whole quotient_of mean_minus mean_text decimal_in
mean_sized_excluded = apart first refl

pub ten_as_an_empty_place_excluded : ten_as_an_empty_place 10 ≢ why_left 10
unfolding refusal_text number_words why_left
ten_as_an_empty_place_excluded = apart first refl

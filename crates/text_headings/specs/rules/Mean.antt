-- The mean of a night's headings as text: the mark's heading, how many sights are taken in and set aside, their spread and the mean's error
-- to a thousandth of a second of arc. A text is a list of bytes.
use Rattle.std.specs.Prelude.{ℕ, cond, List, [], ◌∷◌, ◌++◌, ltb, nat_abs}
use Rattle.quantity.specs.declared.Deg.{Deg}
use Rattle.units.specs.rules.Nearest.{nearest_whole}
use Rattle.residual_sheet.specs.declared.Sheet.{Sheet}
use Rattle.heading_mean.specs.rules.Spread.{spread_of, mean_error}
use Rattle.text_number.specs.rules.Bytes.{ascii, line_end}
use Rattle.text_number.specs.rules.Number.{decimal_text}
use Rattle.text_heading.specs.rules.Angle.{mark_text}
use Rattle.text_headings.specs.rules.Sight.{seconds_text}

unfoldable pub counts_text : ℕ → ℕ → List ℕ
counts_text count aside =
    ascii "taken in         " ++ (decimal_text count ++ (ascii "\nset aside        " ++ (decimal_text aside ++ (line_end ∷ []))))

-- of the residuals, by their count, the size of their sum and the sum of their squares
unfoldable pub scatter_text : ℕ → ℕ → ℕ → List ℕ
scatter_text count sum squares =
    ascii "spread           " ++ (seconds_text (nearest_whole (spread_of count sum squares))
    ++ (ascii "\nerror of mean    " ++ (seconds_text (nearest_whole (mean_error count sum squares)) ++ (line_end ∷ []))))

unfoldable pub spread_text : ℕ → ℕ → ℕ → List ℕ
spread_text count sum squares = cond (ltb count 2) (ascii "spread           not known of one sight\n") (scatter_text count sum squares)

unfoldable pub mean_text : Deg → Sheet → List ℕ
mean_text mean s =
    mark_text mean ++ (counts_text (nat_abs s.count) (nat_abs s.aside)
    ++ spread_text (nat_abs s.count) (nat_abs s.sum) (nat_abs s.squares))

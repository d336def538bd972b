-- A sheet for people, in whole milliarcseconds: mean and root mean square are worked out in doubles and rounded once to the nearest whole
-- number, halves away from zero. Where nothing is taken in, there are none.
use Rattle.std.specs.Prelude.{ℕ, Bool, false, cond, List, [], ◌∷◌, ◌++◌, eqb, ltb, Float, ℤ, nat_abs}
use Rattle.double.specs.rules.Operations.{◌⊘◌}
use Rattle.double.specs.rules.Whole.{from_whole}
use Rattle.signed.specs.rules.Signed.{negative}
use Rattle.units.specs.rules.Nearest.{nearest_whole}
use Rattle.root.specs.rules.Root.{root_of}
use Rattle.residual_sheet.specs.declared.Sheet.{Sheet}
use Rattle.text_residuals.specs.declared.Place.{Place}
use Rattle.text_number.specs.rules.Bytes.{ascii, space, line_end}
use Rattle.text_number.specs.rules.Number.{decimal_text, signed_text, integer_text}
use Rattle.text_refusal.specs.rules.Refusal.{refusal_text}
use Rattle.text_residuals.specs.rules.Figures.{whole_then}

-- one number over another, by their sizes
unfoldable pub quotient_of : ℤ → ℤ → Float
quotient_of n count = from_whole (nat_abs n) ⊘ from_whole (nat_abs count)

-- no minus sign before 0
unfoldable pub mean_minus : ℤ → ℕ → Bool
mean_minus sum n = cond (negative sum) (ltb 0 n) false

unfoldable pub mean_text : ℤ → ℤ → List ℕ
mean_text sum count =
    let n = nearest_whole (quotient_of sum count) in
    signed_text (mean_minus sum n) n ++ (line_end ∷ [])

-- by our own root
unfoldable pub root_text : ℤ → ℤ → List ℕ
root_text squares count = decimal_text (nearest_whole (root_of (quotient_of squares count))) ++ (line_end ∷ [])

-- a sight's line, and its star
unfoldable pub line_star_text : ℕ → ℕ → List ℕ
line_star_text line star = ascii "line " ++ (decimal_text line ++ (ascii ", star " ++ decimal_text star))

-- where the largest stands
unfoldable pub where_text : ℕ → ℕ → List ℕ
where_text line star = ascii "(" ++ (line_star_text line star ++ ascii ")\n")

unfoldable pub labelled : List ℕ → ℤ → ℕ → List ℕ
labelled label z end = label ++ whole_then z end

-- of what is taken in
unfoldable pub taken_text : Sheet → ℕ → ℕ → List ℕ
taken_text s line star =
    ascii "  mean              "
    ++ (mean_text s.sum s.count
    ++ (ascii "  root mean square  "
    ++ (root_text s.squares s.count ++ (labelled (ascii "  largest           ") s.largest space ++ where_text line star))))

unfoldable pub any_taken_text : Sheet → ℕ → ℕ → List ℕ
any_taken_text s line star = cond (eqb (nat_abs s.count) 0) [] (taken_text s line star)

-- a coordinate
unfoldable pub coordinate_text : Sheet → ℕ → ℕ → List ℕ
coordinate_text s line star =
    labelled (ascii "  taken in          ") s.count line_end
    ++ (any_taken_text s line star ++ labelled (ascii "  set aside         ") s.aside line_end)

-- both, each with the line and the star of its largest
unfoldable pub sheet_text : Sheet → Place → Sheet → Place → List ℕ
sheet_text asc ascPlace dec decPlace =
    ascii "right ascension, computed less measured, in milliarcseconds\n"
    ++ (coordinate_text asc ascPlace.line ascPlace.star
    ++ (ascii "declination, computed less measured, in milliarcseconds\n" ++ coordinate_text dec decPlace.line decPlace.star))

-- a sight that is not taken in, in words: 10 is find's
unfoldable pub why_left : ℕ → List ℕ
why_left n = cond (eqb n 10) (ascii "not on the list\n") (refusal_text n)

unfoldable pub left_text : ℕ → ℕ → ℕ → List ℕ
left_text line star n = line_star_text line star ++ (ascii ": " ++ why_left n)

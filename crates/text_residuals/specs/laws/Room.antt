-- Each text has room in the bytes that are named for it.
use Rattle.std.specs.Prelude.{ℕ, ◌+◌, ◌≤◌, Bool, true, false, cond, List, [], ◌∷◌, ◌++◌, eqb, ℤ, nat_abs, length}
use Rattle.std.proofs.Common.{arith, length-append}
use Rattle.signed.specs.rules.Signed.{negative}
use Rattle.residual_sheet.specs.declared.Residual.{Residual}
use Rattle.residual_sheet.specs.declared.Sheet.{Sheet}
use Rattle.units.specs.rules.Nearest.{nearest_whole}
use Rattle.root.specs.rules.Root.{root_of}
use Rattle.text_number.specs.rules.Bytes.{ascii, space, line_end}
use Rattle.text_number.specs.rules.Number.{decimal_text, signed_text, integer_text}
use Rattle.text_number.specs.laws.Number.{any_decimal_short, any_signed_short, refused_short}
use Rattle.text_number.specs.rules.Refused.{refused_text}
use Rattle.text_refusal.specs.rules.Refusal.{refusal_text}
use Rattle.text_refusal.specs.laws.Room.{either_short, refusal_short}
use Rattle.text_residuals.specs.declared.Place.{Place}
use Rattle.text_residuals.specs.rules.Figures.{residual_then, decimal_then, sight_text, refused_sight_text, whole_then, row_text, figures_text}
use Rattle.text_residuals.specs.rules.Sheet.{quotient_of, mean_minus, mean_text, root_text, line_star_text, where_text, labelled}
use Rattle.text_residuals.specs.rules.Sheet.{taken_text, any_taken_text, coordinate_text, sheet_text, why_left, left_text}

-- two texts, each within its bytes
both : (a b : List ℕ) (m n : ℕ) → length a ≤ m → length b ≤ n → length (a ++ b) ≤ m + n
both a b m n h k = omega (arith, length-append a b)

whole_short : (z : ℤ) (end : ℕ) → length (whole_then z end) ≤ 22
unfolding whole_then integer_text
whole_short z end = both (signed_text (negative z) (nat_abs z)) (end ∷ []) 21 1 (any_signed_short (negative z) (nat_abs z)) (omega arith)

residual_short : (x : Residual) (end : ℕ) → length (residual_then x end) ≤ 22
unfolding residual_then
residual_short x end = both (signed_text x.minus x.size) (end ∷ []) 21 1 (any_signed_short x.minus x.size) (omega arith)

decimal_then_short : (n : ℕ) → length (decimal_then n) ≤ 21
unfolding decimal_then
decimal_then_short n = both (decimal_text n) (space ∷ []) 20 1 (any_decimal_short n) (omega arith)

pub sight_short : (line star : ℕ) (asc dec : Residual) → length (sight_text line star asc dec) ≤ 86
unfolding sight_text
sight_short line star asc dec =
    both (decimal_then line) _ 21 65 (decimal_then_short line)
    (both (decimal_then star) _ 21 44 (decimal_then_short star)
    (both (residual_then asc space) _ 22 22 (residual_short asc space) (residual_short dec line_end)))

row_short : (s : Sheet) → length (row_text s) ≤ 132
unfolding row_text
row_short s =
    both (whole_then s.count space) _ 22 110 (whole_short s.count space)
    (both (whole_then s.sum space) _ 22 88 (whole_short s.sum space)
    (both (whole_then s.squares space) _ 22 66 (whole_short s.squares space)
    (both (whole_then s.largest space) _ 22 44 (whole_short s.largest space)
    (both (whole_then s.place space) _ 22 22 (whole_short s.place space) (whole_short s.aside line_end)))))

pub figures_short : (asc dec : Sheet) → length (figures_text asc dec) ≤ 264
unfolding figures_text
figures_short asc dec = both (row_text asc) (row_text dec) 132 132 (row_short asc) (row_short dec)

mean_short : (sum count : ℤ) → length (mean_text sum count) ≤ 22
unfolding mean_text
mean_short sum count =
    let n = nearest_whole (quotient_of sum count) in
    both (signed_text (mean_minus sum n) n) (line_end ∷ []) 21 1 (any_signed_short (mean_minus sum n) n) (omega arith)

root_short : (squares count : ℤ) → length (root_text squares count) ≤ 21
unfolding root_text
root_short squares count =
    let n = nearest_whole (root_of (quotient_of squares count)) in
    both (decimal_text n) (line_end ∷ []) 20 1 (any_decimal_short n) (omega arith)

line_star_short : (line star : ℕ) → length (line_star_text line star) ≤ 52
unfolding line_star_text
line_star_short line star =
    let named = ascii ", star " ++ decimal_text star in
    both (ascii "line ") (decimal_text line ++ named) 5 47 (omega arith)
    (both (decimal_text line) named 20 27 (any_decimal_short line) (both (ascii ", star ") (decimal_text star) 7 20 (omega arith) (any_decimal_short star)))

where_short : (line star : ℕ) → length (where_text line star) ≤ 55
unfolding where_text
where_short line star =
    both (ascii "(") (line_star_text line star ++ ascii ")\n") 1 54 (omega arith)
    (both (line_star_text line star) (ascii ")\n") 52 2 (line_star_short line star) (omega arith))

labelled_short : (label : List ℕ) (z : ℤ) (end : ℕ) → length label ≤ 20 → length (labelled label z end) ≤ 42
unfolding labelled
labelled_short label z end h = both label (whole_then z end) 20 22 h (whole_short z end)

taken_short : (s : Sheet) (line star : ℕ) → length (taken_text s line star) ≤ 180
unfolding taken_text
taken_short s line star =
    let largest = labelled (ascii "  largest           ") s.largest space ++ where_text line star in
    let rooted = root_text s.squares s.count ++ largest in
    let squared = ascii "  root mean square  " ++ rooted in
    let meant = mean_text s.sum s.count ++ squared in
    both (ascii "  mean              ") meant 20 160 (omega arith)
    (both (mean_text s.sum s.count) squared 22 138 (mean_short s.sum s.count)
    (both (ascii "  root mean square  ") rooted 20 118 (omega arith)
    (both (root_text s.squares s.count) largest 21 97 (root_short s.squares s.count)
    (both (labelled (ascii "  largest           ") s.largest space) (where_text line star) 42 55
    (labelled_short (ascii "  largest           ") s.largest space (omega arith)) (where_short line star)))))

any_taken_short : (s : Sheet) (line star : ℕ) → length (any_taken_text s line star) ≤ 180
unfolding any_taken_text
any_taken_short s line star = by_case (eqb (nat_abs s.count) 0)
  where
    by_case : (t : Bool) → length (cond t [] (taken_text s line star)) ≤ 180
    by_case true = omega arith
    by_case false = taken_short s line star

coordinate_short : (s : Sheet) (line star : ℕ) → length (coordinate_text s line star) ≤ 264
unfolding coordinate_text
coordinate_short s line star =
    both (labelled (ascii "  taken in          ") s.count line_end) _ 42 222 (labelled_short (ascii "  taken in          ") s.count line_end (omega arith))
    (both (any_taken_text s line star) _ 180 42 (any_taken_short s line star)
    (labelled_short (ascii "  set aside         ") s.aside line_end (omega arith)))

pub sheet_short : (asc : Sheet) (ascPlace : Place) (dec : Sheet) (decPlace : Place) → length (sheet_text asc ascPlace dec decPlace) ≤ 644
unfolding sheet_text
sheet_short asc ascPlace dec decPlace =
    let second = coordinate_text dec decPlace.line decPlace.star in
    let named = ascii "declination, computed less measured, in milliarcseconds\n" ++ second in
    let first = coordinate_text asc ascPlace.line ascPlace.star ++ named in
    both (ascii "right ascension, computed less measured, in milliarcseconds\n") first 60 584 (omega arith)
    (both (coordinate_text asc ascPlace.line ascPlace.star) named 264 320 (coordinate_short asc ascPlace.line ascPlace.star)
    (both (ascii "declination, computed less measured, in milliarcseconds\n") second 56 264 (omega arith)
    (coordinate_short dec decPlace.line decPlace.star)))

-- a sight's line where its star is refused, and in words
pub refused_sight_short : (line star n : ℕ) → length (refused_sight_text line star n) ≤ 86
unfolding refused_sight_text
refused_sight_short line star n =
    both (decimal_then line) _ 21 65 (decimal_then_short line) (both (decimal_then star) (refused_text n) 21 44 (decimal_then_short star) (omega (arith, refused_short n)))

pub left_short : (line star n : ℕ) → length (left_text line star n) ≤ 177
unfolding left_text why_left
left_short line star n =
    both (line_star_text line star) _ 52 125 (line_star_short line star)
    (both (ascii ": ") (why_left n) 2 123 (omega arith) (either_short 123 (eqb n 10) (ascii "not on the list\n") (refusal_text n) (omega arith) (refusal_short n)))

-- Wrong variants of a residual, and of a residual sheet.
use Rattle.std.specs.Prelude.{ℕ, suc, ◌+◌, max, ◌*◌, ◌%◌, cond, ◌||◌, Bool, true, ◌&&◌, List, [], ◌∷◌, map, eqb, leb, ltb, pos, Float, length}
use Rattle.std.specs.Float.{binary32}
use Rattle.std.specs.Float.Ieee.{of_int, to_unsigned, lt, le}
use Rattle.double.specs.rules.Operations.{bits, ◌⊗◌, zero, half, ◌⊖◌}
use Rattle.quantity.specs.declared.Rad.{Rad}
use Rattle.quantity.specs.rules.Angle.{rad}
use Rattle.quantity.specs.rules.Refusal.{angle_refusal}
use Rattle.units.specs.rules.Nearest.{nearest_whole, has_minus}
use Rattle.list.specs.rules.Stars.{most_stars}
use Rattle.residual_sheet.specs.declared.Residual.{Residual}
use Rattle.residual_sheet.specs.rules.Residual.{unrounded, is_aside, difference, taken_back, in_milliarcseconds, residual_of, farthest_taken}
use Rattle.residual_sheet.specs.rules.Entry.{Entry, other, aside, taken}
use Rattle.residual_sheet.specs.rules.Sheet.{taken_in, aside_of, squares_of, largest_of, place_of, Figures, figures_of, merged_place}
use Rattle.residual_sheet.specs.rules.Residuals.{floats_refusal}
use Rattle.residual_sheet.specs.notions.Place.{is_there}
use Rattle.double.specs.rules.Sign.{size}
use Rattle.double.specs.rules.Whole.{whole_part, from_whole}
use Rattle.units.specs.notions.Wrong as units
use Rattle.helpers.specs.rules.Angle.{within_two_PI}

-- a residual as one number
abbrev pub of_residual : Residual → ℕ
of_residual x = 2 * x.size + cond x.minus 1 0

-- rounded so, with its sign
abbrev by : (Float → ℕ) → Rad → Residual
by f x = record { minus = has_minus (unrounded x) (f (unrounded x)); size = f (unrounded x) }

-- below 2^53: of two whole numbers that are as near the even one
abbrev even_of : Float → ℕ
even_of y =
    let w = whole_part y in
    let rest = y ⊖ from_whole w in
    cond (le half rest) (cond (le rest half && eqb (w % 2) 0) w (w + 1)) w

abbrev pub halves_to_even : Rad → Residual
halves_to_even x = by (λ (y : Float). even_of (size y)) x

-- toward what is above: below zero toward zero
abbrev pub halves_up : Rad → Residual
halves_up x = by (λ (y : Float). cond (lt y zero) (units.halves_toward_zero (size y)) (nearest_whole (size y))) x

abbrev pub sign_lost : Rad → ℕ
sign_lost x = 2 * (in_milliarcseconds x).size

abbrev pub other_way : Bool → Rad → Rad → Residual
other_way across computed measured = residual_of across measured computed

abbrev pub fold_left_out : Rad → Rad → Residual
fold_left_out computed measured = in_milliarcseconds (taken_back (difference computed measured))

abbrev pub half_a_turn_not_taken_back : Rad → Rad → Residual
half_a_turn_not_taken_back computed measured = in_milliarcseconds (within_two_PI (difference computed measured))

abbrev pub fold_on_the_declination : Rad → Rad → Residual
fold_on_the_declination computed measured = residual_of true computed measured

-- 1000000.0
abbrev million : Float
million = bits 0x412e848000000000

abbrev pub aside_before_rounding : Rad → Bool
aside_before_rounding x = lt million (size (unrounded x))

abbrev pub aside_at_the_limit : Residual → Bool
aside_at_the_limit x = leb farthest_taken x.size

-- ---- an entry

-- whatever its star's status is
abbrev pub refused_star_taken_in : ℕ → Residual → Entry
refused_star_taken_in status x = cond (is_aside x) aside (taken x)

-- x where y, of the other coordinate, is set aside
abbrev pub aside_of_both_for_one : ℕ → Residual → Residual → Entry
aside_of_both_for_one status x y = cond (eqb status 0) (cond (is_aside x || is_aside y) aside (taken x)) other

-- an entry as one number
abbrev pub of_entry : Entry → ℕ
of_entry other = 0
of_entry aside = 1
of_entry (taken x) = 2 + x.size

-- ---- the figures

abbrev pub aside_counted_in : List Entry → ℕ
aside_counted_in es = length (taken_in es) + aside_of es

-- the last place where a residual of size n is taken in
abbrev last_place : ℕ → List Entry → ℕ
last_place n [] = 0
last_place n (e ∷ es) = cond (is_there n es) (suc (last_place n es)) 0

abbrev pub last_of_the_largest : List Entry → ℕ
last_of_the_largest es = last_place (largest_of (taken_in es)) es

abbrev pub place_among_taken : List Entry → ℕ
place_among_taken es = place_of (map taken (taken_in es))

abbrev pub no_place_where_all_are_zero : List Entry → ℕ
no_place_where_all_are_zero es = cond (eqb (largest_of (taken_in es)) 0) 0 (place_of es)

-- with 24 binary digits
abbrev pub squares_rounded : List Residual → ℕ
squares_rounded xs = to_unsigned 64 (of_int binary32 (pos (squares_of xs)))

-- the square of what is not rounded
abbrev pub square_of_a_float : Rad → ℕ
square_of_a_float x = nearest_whole (unrounded x ⊗ unrounded x)

-- ---- merging

-- the first sheet's place for two that are alike
abbrev pub first_sheet_wins : Figures → Figures → ℕ
first_sheet_wins f g = cond (ltb f.largest g.largest) g.place f.place

-- of two parts of a list, the second's places as they are there
abbrev pub places_not_moved_on : List Entry → List Entry → ℕ
places_not_moved_on es fs = merged_place (figures_of es) (figures_of fs)

-- ---- refusals

-- 3, then 1
abbrev pub three_before_one : List ℕ → ℕ
three_before_one [] = 0
three_before_one (b ∷ bs) = max (angle_refusal (rad (bits b))) (three_before_one bs)

-- the floats of entries of status 0
abbrev of_status_zero : List ℕ → List ℕ → List ℕ
of_status_zero [] bs = []
of_status_zero (s ∷ ss) [] = []
of_status_zero (s ∷ ss) (b ∷ bs) = cond (eqb s 0) (b ∷ of_status_zero ss bs) (of_status_zero ss bs)

abbrev pub status_zero_alone_tested : List ℕ → List ℕ → ℕ
status_zero_alone_tested status bs = floats_refusal (of_status_zero status bs)

abbrev pub one_entry_more : ℕ → ℕ
one_entry_more n = cond (leb n (most_stars + 1)) 0 8

-- Both sheets of a night, or a refusal.
use Rattle.std.specs.Prelude.{ℕ, Bool, true, false, cond, ◌&&◌, List, [], ◌∷◌, eqb, leb, length, Result, Ok, Err}
use Rattle.double.specs.rules.Operations.{bits}
use Rattle.quantity.specs.declared.Refusal.{Refusal}
use Rattle.quantity.specs.rules.Angle.{rad}
use Rattle.quantity.specs.rules.Answer.{Answer, answered, refused, number, unless}
use Rattle.quantity.specs.rules.Refusal.{lower, angle_refusal}
use Rattle.list.specs.rules.Stars.{most_stars}
use Rattle.residual_sheet.specs.declared.Sheet.{Sheet}
use Rattle.residual_sheet.specs.rules.Entry.{entries_of}
use Rattle.residual_sheet.specs.rules.Sheet.{figures_of, sheet_of}

-- 8 for unequal slices, or more entries than a list has stars
unfoldable pub lengths_refusal : ℕ → ℕ → ℕ → ℕ → ℕ → ℕ
lengths_refusal n a b c d = cond (eqb a n && eqb b n && eqb c n && eqb d n && leb n most_stars) 0 8

-- the least refusal of what is in a slice, by that of one
unfoldable pub least_refusal : (ℕ → ℕ) → List ℕ → ℕ
least_refusal f [] = 0
least_refusal f (b ∷ bs) = lower (f b) (least_refusal f bs)

-- of a float that is lent as its bits: 1 where it is not finite, 3 above 64.0 in size
abbrev pub float_refusal : ℕ → ℕ
float_refusal b = angle_refusal (rad (bits b))

-- of all floats of a slice: 1, then 3
abbrev pub floats_refusal : List ℕ → ℕ
floats_refusal = least_refusal float_refusal

-- of the five slices, statuses, computed right ascensions and declinations, measured ones: 8, then 1, then 3, over all floats
unfoldable pub residuals_refusal : List ℕ → List ℕ → List ℕ → List ℕ → List ℕ → ℕ
residuals_refusal status asc dec measuredAsc measuredDec =
    let lengths = lengths_refusal (length status) (length asc) (length dec) (length measuredAsc) (length measuredDec) in
    cond (eqb lengths 0)
    (lower (lower (floats_refusal asc) (floats_refusal dec)) (lower (floats_refusal measuredAsc) (floats_refusal measuredDec)))
    lengths

-- in right ascension the difference is taken across the turn, in declination it is not
abbrev pub sheet_in : Bool → List ℕ → List ℕ → List ℕ → Sheet
sheet_in across status computed measured = sheet_of (figures_of (entries_of across status computed measured))

-- the sheet of right ascension, then that of declination
pub data TwoSheets : Type 0 where
  two : Sheet → Sheet → TwoSheets

abbrev pub shown_sheets : Result (Sheet × Sheet) Refusal → Answer TwoSheets
shown_sheets (Ok (a, d)) = answered (two a d)
shown_sheets (Err n) = refused (number n)

unfoldable pub residuals_rule : List ℕ → List ℕ → List ℕ → List ℕ → List ℕ → Answer TwoSheets
residuals_rule status asc dec measuredAsc measuredDec =
    unless (residuals_refusal status asc dec measuredAsc measuredDec)
    (answered (two (sheet_in true status asc measuredAsc) (sheet_in false status dec measuredDec)))

-- Wrong variants of a star's row.
use Rattle.std.specs.Prelude.{ℕ, ◌-◌, ◌/◌, ◌%◌, ◌*◌, Bool, false, cond, List, ◌∷◌, ◌++◌, eqb, ltb, Float, length, take}
use Rattle.std.specs.Float.Ieee.{lt}
use Rattle.double.specs.rules.Operations.{zero, one, ◌⊖◌}
use Rattle.double.specs.rules.Sign.{size}
use Rattle.double.specs.rules.Whole.{whole_part, from_whole}
use Rattle.quantity.specs.declared.Rad.{Rad}
use Rattle.quantity.specs.rules.Answer.{Answer, answered, refused, Triple, triple}
use Rattle.units.specs.rules.Degrees.{to_degrees, milliarcseconds}
use Rattle.units.specs.rules.Nearest.{nearest_whole}
use Rattle.helpers.specs.rules.Angle.{within_two_PI}
use Rattle.text_number.specs.rules.Bytes.{ascii, colon, point}
use Rattle.text_number.specs.rules.Number.{decimal_text}
use Rattle.text_time.specs.rules.Time.{two_digits, three_digits, clock_text}
use Rattle.text_time.specs.rules.Line.{outcome_text}
use Rattle.text_refusal.specs.rules.Refusal.{refusal_text}
use Rattle.text_row.specs.rules.Place.{milliseconds, hundredths, arc_text}
use Rattle.text_row.specs.rules.Row.{column_text, place_text}
use Rattle.text_row.specs.rules.PlanRow.{times_row, plan_row}

-- ---- a right ascension

-- another whole number of milliseconds
abbrev hours_by : (Rad → ℕ) → Rad → List ℕ
hours_by whole x = let n = whole x in clock_text (n / 1000) ++ (point ∷ three_digits (n % 1000))

-- the seconds rounded by themselves
abbrev pub seconds_not_carried : Rad → List ℕ
seconds_not_carried x =
    let y = milliseconds (to_degrees (within_two_PI x)) in
    let minutes = whole_part y / 60000 in
    let rest = nearest_whole (y ⊖ from_whole (minutes * 60000)) in
    two_digits (minutes / 60) ++ (colon ∷ (two_digits (minutes % 60) ++ (colon ∷ (two_digits (rest / 1000) ++ (point ∷ three_digits (rest % 1000))))))

-- to the millisecond that has begun
abbrev pub cut_not_rounded : Rad → List ℕ
cut_not_rounded = hours_by (λ (x : Rad). whole_part (milliseconds (to_degrees (within_two_PI x))) % 86400000)

-- degrees, minutes and seconds of arc in place of hours, minutes and seconds of time
abbrev pub degrees_for_hours : Rad → List ℕ
degrees_for_hours = hours_by (λ (x : Rad). nearest_whole (milliarcseconds (to_degrees (within_two_PI x))))

-- 24:00:00.000
abbrev pub whole_turn_printed : Rad → List ℕ
whole_turn_printed = hours_by (λ (x : Rad). nearest_whole (milliseconds (to_degrees (within_two_PI x))))

-- as the chain gives it
abbrev pub not_folded : Rad → List ℕ
not_folded = hours_by (λ (x : Rad). nearest_whole (milliseconds (to_degrees x)) % 86400000)

-- ---- a declination

-- a minus sign by another test
abbrev degrees_by : (Float → ℕ → Bool) → Rad → List ℕ
degrees_by minus x =
    let y = hundredths (to_degrees x) in
    arc_text (minus y (nearest_whole (size y))) (nearest_whole (size y))

-- none before a number of degrees that is 0
abbrev pub sign_lost : Rad → List ℕ
sign_lost = degrees_by (λ (y : Float) (n : ℕ). cond (lt y zero) (ltb 0 (n / 360000)) false)

-- one before what is 0 once rounded
abbrev pub minus_before_zero : Rad → List ℕ
minus_before_zero = degrees_by (λ (y : Float) (n : ℕ). lt y zero)

-- ---- a row

-- at the left of its column
abbrev pub number_at_the_left : ℕ → List ℕ
number_at_the_left n = decimal_text n ++ take (10 - length (decimal_text n)) (ascii "          ")

-- a place where the status is 9
abbrev pub refused_star_as_good : ℕ → ℕ → Rad → Rad → List ℕ
refused_star_as_good number status asc dec =
    column_text number ++ (ascii "  " ++ cond (eqb status 9) (place_text asc dec) (refusal_text status))

-- ---- a row in a plan

-- with another text of what was found
abbrev row_by : (Answer Triple → Float → List ℕ) → ℕ → Answer Triple → Float → List ℕ
row_by text number a again = column_text number ++ (ascii "  " ++ text a again)

-- the set under rise, and the rise under set
abbrev pub rise_and_set_traded : ℕ → Answer Triple → Float → List ℕ
rise_and_set_traded = row_by traded
  where
    traded : Answer Triple → Float → List ℕ
    traded (answered (triple rise culmination set)) again = times_row set culmination rise again
    traded (refused n) again = refusal_text n

-- what the line says after the number, so that a refusal has no words
abbrev pub line_in_row : ℕ → Answer Triple → Float → List ℕ
line_in_row = row_by outcome_text

-- a star that never rises as one that is refused
abbrev pub never_rises_as_refused : ℕ → ℕ → List ℕ
never_rises_as_refused number n = column_text number ++ (ascii "  " ++ refusal_text n)

-- a second culmination left unsaid
abbrev pub again_left_out : ℕ → Answer Triple → Float → List ℕ
again_left_out number a again = plan_row number a one

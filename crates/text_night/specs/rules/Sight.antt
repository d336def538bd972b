-- What a line says: the time, a star's number, what was read off at the star and at the mark in degrees, four fields and no more. What
-- follows # is left out, and a line with nothing else says nothing. `dut1` is UT1 − UTC, in milliseconds.
use Rattle.std.specs.Prelude.{ℕ, cond, List, ℤ, Float}
use Rattle.quantity.specs.declared.Deg.{Deg}
use Rattle.text_whole.specs.rules.Unsigned.{Reading, is, none, unsigned_rule}
use Rattle.text_date.specs.rules.Date as date
use Rattle.text_day.specs.rules.Day.{day_rule}
use Rattle.text_degrees.specs.rules.Degrees.{Angle, of, unclear, degrees_rule}
use Rattle.text_fields.specs.rules.Fields.{is_bare, field_of, after_field}
use Rattle.text_fields.specs.rules.Walk.{Told, told_of}
use Rattle.text_night.specs.declared.Sight.{Sight}

abbrev pub sight : Float → ℕ → Deg → Deg → Sight
sight t n s m = record { day = t; number = n; star = s; mark = m }

-- each of the three fields behind the time clear
unfoldable pub sight_from : Float → Reading ℕ → Angle → Angle → Reading Sight
sight_from t (is n) (of s) (of m) = is (sight t n s m)
sight_from t (is n) (of s) unclear = none
sight_from t (is n) unclear m = none
sight_from t none s m = none

-- the mark, and no field behind it
unfoldable pub with_mark : Float → Reading ℕ → Angle → List ℕ → Reading Sight
with_mark t n s text = cond (is_bare (after_field text)) (sight_from t n s (degrees_rule (field_of text))) none

-- the star, then that
unfoldable pub with_star : Float → Reading ℕ → List ℕ → Reading Sight
with_star t n text = with_mark t n (degrees_rule (field_of text)) (after_field text)

-- the number, then both
unfoldable pub with_number : Float → List ℕ → Reading Sight
with_number t text = with_star t (unsigned_rule (field_of text)) (after_field text)

-- on a day; for whatever reason there is none, the line is unclear
abbrev pub on_day : date.Reading Float → (Float → Reading Sight) → Reading Sight
on_day (date.is t) others = others t
on_day (date.none k) others = none

-- the time, then all three
unfoldable pub sight_rule : ℤ → List ℕ → Reading Sight
sight_rule dut1 text = on_day (day_rule (field_of text) dut1) (λ (t : Float). with_number t (after_field text))

unfoldable pub line_rule : ℤ → List ℕ → Told Sight
line_rule dut1 text = told_of (sight_rule dut1) text

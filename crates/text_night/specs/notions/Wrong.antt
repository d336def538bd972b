-- Wrong variants of the reading of a night's sights.
use Rattle.std.specs.Prelude.{ℕ, List, ℤ, pos, Float}
use Rattle.text_whole.specs.rules.Unsigned.{Reading, unsigned_rule}
use Rattle.text_day.specs.rules.Day.{day_rule}
use Rattle.text_degrees.specs.rules.Degrees.{degrees_rule}
use Rattle.text_fields.specs.rules.Fields.{field_of, after_field}
use Rattle.text_night.specs.declared.Sight.{Sight}
use Rattle.text_night.specs.rules.Sight.{sight_from, on_day, sight_rule}

-- the fields of a line, from the second on
abbrev second : List ℕ → List ℕ
second text = field_of (after_field text)

abbrev third : List ℕ → List ℕ
third text = field_of (after_field (after_field text))

abbrev fourth : List ℕ → List ℕ
fourth text = field_of (after_field (after_field (after_field text)))

-- the mark before the star
abbrev pub readings_traded : ℤ → List ℕ → Reading Sight
readings_traded dut1 text =
    on_day (day_rule (field_of text) dut1) (λ (t : Float). sight_from t (unsigned_rule (second text)) (degrees_rule (fourth text)) (degrees_rule (third text)))

-- the number before the time
abbrev pub number_first : ℤ → List ℕ → Reading Sight
number_first dut1 text =
    on_day (day_rule (second text) dut1) (λ (t : Float). sight_from t (unsigned_rule (field_of text)) (degrees_rule (third text)) (degrees_rule (fourth text)))

-- whatever follows the fourth
abbrev pub fifth_field_ignored : ℤ → List ℕ → Reading Sight
fifth_field_ignored dut1 text =
    on_day (day_rule (field_of text) dut1) (λ (t : Float). sight_from t (unsigned_rule (second text)) (degrees_rule (third text)) (degrees_rule (fourth text)))

-- UT1 − UTC left out
abbrev pub dut1_left_out : ℤ → List ℕ → Reading Sight
dut1_left_out dut1 text = sight_rule (pos 0) text

-- What a line says: a star's number, its right ascension and its declination in degrees, three fields and no more. What follows # is left
-- out, and a line with nothing else says nothing.
use Rattle.std.specs.Prelude.{ℕ, cond, List}
use Rattle.quantity.specs.declared.Deg.{Deg}
use Rattle.text_whole.specs.rules.Unsigned.{Reading, is, none, unsigned_rule}
use Rattle.text_degrees.specs.rules.Degrees.{Angle, of, unclear, degrees_rule}
use Rattle.text_fields.specs.rules.Fields.{is_bare, field_of, after_field}
use Rattle.text_fields.specs.rules.Walk.{Told, told_of}
use Rattle.text_measured.specs.declared.Sight.{Sight}

abbrev pub sight : ℕ → Deg → Deg → Sight
sight n a d = record { number = n; asc = a; dec = d }

-- each of three fields clear
unfoldable pub sight_from : Reading ℕ → Angle → Angle → Reading Sight
sight_from (is n) (of a) (of d) = is (sight n a d)
sight_from (is n) (of a) unclear = none
sight_from (is n) unclear d = none
sight_from none a d = none

-- the declination, and no field behind it
unfoldable pub with_dec : Reading ℕ → Angle → List ℕ → Reading Sight
with_dec n a text = cond (is_bare (after_field text)) (sight_from n a (degrees_rule (field_of text))) none

-- the right ascension, then that
unfoldable pub with_asc : Reading ℕ → List ℕ → Reading Sight
with_asc n text = with_dec n (degrees_rule (field_of text)) (after_field text)

-- the number, then both
unfoldable pub sight_rule : List ℕ → Reading Sight
sight_rule text = with_asc (unsigned_rule (field_of text)) (after_field text)

unfoldable pub line_rule : List ℕ → Told Sight
line_rule text = told_of sight_rule text

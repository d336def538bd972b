-- Wrong variants of the reading of measured places.
use Rattle.std.specs.Prelude.{ℕ, suc, List, [], ◌∷◌}
use Rattle.text_whole.specs.rules.Unsigned.{Reading, unsigned_rule}
use Rattle.text_degrees.specs.rules.Degrees.{degrees_rule}
use Rattle.text_fields.specs.rules.Fields.{field_of, after_field}
use Rattle.text_measured.specs.declared.Sight.{Sight}
use Rattle.text_measured.specs.rules.Sight.{sight_from}
use Rattle.text_measured.specs.rules.Sights.{Entry}

-- whatever follows the third
abbrev pub fourth_field_ignored : List ℕ → Reading Sight
fourth_field_ignored text =
    sight_from (unsigned_rule (field_of text)) (degrees_rule (field_of (after_field text))) (degrees_rule (field_of (after_field (after_field text))))

-- right ascension and declination the other way round
abbrev pub coordinates_swapped : List ℕ → Reading Sight
coordinates_swapped text =
    sight_from (unsigned_rule (field_of text)) (degrees_rule (field_of (after_field (after_field text)))) (degrees_rule (field_of (after_field text)))

-- the line of a sight counted over sights
abbrev pub line_among_sights : ℕ → List Entry → List Entry
line_among_sights i [] = []
line_among_sights i (e ∷ es) = record { number = e.number; asc = e.asc; dec = e.dec; line = suc i } ∷ line_among_sights (suc i) es

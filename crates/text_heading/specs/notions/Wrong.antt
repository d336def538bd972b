-- Wrong variants of the parts of a sight's text.
use Rattle.std.specs.Prelude.{ℕ, ◌/◌, ◌%◌, ◌*◌, false, List, [], ◌∷◌, ◌++◌}
use Prim.Native.Char.{code}
use Rattle.double.specs.rules.Operations.{◌⊖◌}
use Rattle.double.specs.rules.Whole.{whole_part, from_whole}
use Rattle.quantity.specs.declared.Deg.{Deg}
use Rattle.quantity.specs.rules.Answer.{Answer}
use Rattle.edition.specs.declared.Edition.{Edition}
use Rattle.units.specs.rules.Nearest.{nearest_whole}
use Rattle.text_number.specs.rules.Bytes.{ascii, point, line_end}
use Rattle.text_number.specs.rules.Number.{decimal_text}
use Rattle.text_time.specs.rules.Time.{two_digits}
use Rattle.text_refusal.specs.rules.Refusal.{refusal_text}
use Rattle.text_heading.specs.rules.Angle.{tenths, tenths_of, column_text, angle_text}
use Rattle.text_heading.specs.rules.Place.{coordinate_text}
use Rattle.text_heading.specs.rules.Altitude.{seen_text}
use Rattle.text_heading.specs.rules.Refusal.{sight_refusal_text}

-- ---- an angle

-- the seconds rounded by themselves: 9d59'60.0"
abbrev pub seconds_not_carried : Deg → List ℕ
seconds_not_carried x =
    let minutes = whole_part (tenths x) / 600 in
    let rest = nearest_whole (tenths x ⊖ from_whole (minutes * 600)) in
    decimal_text (minutes / 60) ++ (code "d" ∷ (two_digits (minutes % 60) ++ (code "'" ∷ (two_digits (rest / 10)
    ++ (point ∷ (decimal_text (rest % 10) ++ (code "\"" ∷ [])))))))

-- 360d00'00.0"
abbrev pub whole_turn_printed : Deg → List ℕ
whole_turn_printed x = column_text false (tenths_of x)

abbrev pub sign_lost : Deg → List ℕ
sign_lost x = column_text false (tenths_of x)

-- ---- the observer's place

abbrev pub east_for_west : Deg → Deg → List ℕ
east_for_west long lat =
    ascii "place            " ++ (coordinate_text long (code "E") (code "W") ++ (ascii ", " ++ (coordinate_text lat (code "N") (code "S") ++ (line_end ∷ []))))

abbrev pub south_for_north : Deg → Deg → List ℕ
south_for_north long lat =
    ascii "place            " ++ (coordinate_text long (code "W") (code "E") ++ (ascii ", " ++ (coordinate_text lat (code "S") (code "N") ++ (line_end ∷ []))))

-- ---- the edition

-- the published one not said
abbrev pub edition_unsaid : Edition → List ℕ
edition_unsaid edition = []

-- ---- an altitude

-- what stands near the horizon, or near the zenith, not said
abbrev pub nothing_said : Deg → Answer Deg → List ℕ
nothing_said alt seen = angle_text alt ++ (seen_text seen ++ (line_end ∷ []))

-- ---- a refusal

-- the words of a list's reduction: a latitude of 92 is a star carried past the pole, a number that the list has not an empty place
abbrev pub sight_as_star : ℕ → List ℕ
sight_as_star = refusal_text

-- a reading told to check the latitude
abbrev pub mark_as_sight : ℕ → List ℕ
mark_as_sight = sight_refusal_text

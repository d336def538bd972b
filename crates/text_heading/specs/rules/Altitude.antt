-- What is said of an altitude: at which one the star is seen, where refraction is defined; and that it is below the horizon, or near the
-- zenith. A text is a list of bytes.
use Rattle.std.specs.Prelude.{ℕ, cond, List, [], ◌∷◌, ◌++◌, Float}
use Rattle.std.specs.Float.Ieee.{lt, le}
use Rattle.double.specs.rules.Operations.{bits, zero}
use Rattle.quantity.specs.declared.Deg.{Deg}
use Rattle.quantity.specs.rules.Answer.{Answer, answered, refused}
use Rattle.text_number.specs.rules.Bytes.{ascii, line_end}
use Rattle.text_heading.specs.rules.Angle.{tenths_of, arc_text, angle_text}

-- 89.0
abbrev pub near_zenith : Float
near_zenith = bits 0x4056400000000000

unfoldable pub seen_at : Deg → List ℕ
seen_at x = ascii ", seen at " ++ arc_text (tenths_of x)

abbrev pub seen_text : Answer Deg → List ℕ
seen_text (answered x) = seen_at x
seen_text (refused n) = []

unfoldable pub remark_text : Deg → List ℕ
remark_text alt =
    cond (lt alt.0 zero) (ascii ", below the horizon")
    (cond (le near_zenith alt.0) (ascii ", within a degree of the zenith: the azimuth is ill defined") [])

-- the altitude itself, and the one at which the star is seen
unfoldable pub altitude_text : Deg → Answer Deg → List ℕ
altitude_text alt seen = angle_text alt ++ (seen_text seen ++ (remark_text alt ++ (line_end ∷ [])))

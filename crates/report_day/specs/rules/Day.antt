-- The text of a day: the Julian day, then sidereal time at Greenwich, mean and apparent, each in degrees and in hours; and that UT1 is taken
-- for UTC, where it is. Of a refused day its refusal alone. A text is a list of bytes.
use Rattle.std.specs.Prelude.{ℕ, ◌/◌, ◌%◌, Bool, cond, List, [], ◌∷◌, ◌++◌, eqb, Float}
use Rattle.double.specs.rules.Operations.{bits, ◌⊗◌}
use Rattle.quantity.specs.declared.Rad.{Rad}
use Rattle.quantity.specs.rules.Refusal.{day_refusal}
use Rattle.units.specs.rules.Degrees.{to_degrees}
use Rattle.units.specs.rules.Nearest.{nearest_whole}
use Rattle.sidereal.specs.rules.Mean.{mean_of}
use Rattle.sidereal.specs.rules.Apparent.{apparent_of}
use Rattle.text_number.specs.rules.Bytes.{ascii, point}
use Rattle.text_number.specs.rules.Number.{decimal_text}
use Rattle.text_number.specs.rules.Refused.{refused_text}
use Rattle.text_time.specs.rules.Time.{two_digits}
use Rattle.text_row.specs.rules.Place.{hours_text}
use Rattle.report_day.specs.rules.Digits.{exact_text}

-- ---- an angle

-- 1000000.0
abbrev pub million : Float
million = bits 0x412e848000000000

-- in whole millionths of a degree, below a turn
unfoldable pub millionths_of : Rad → ℕ
millionths_of x = nearest_whole ((to_degrees x).0 ⊗ million) % 360000000

unfoldable pub six_digits : ℕ → List ℕ
six_digits n = two_digits (n / 10000 % 100) ++ (two_digits (n / 100 % 100) ++ two_digits (n % 100))

unfoldable pub degrees_text : Rad → List ℕ
degrees_text x = decimal_text (millionths_of x / 1000000) ++ (point ∷ six_digits (millionths_of x))

unfoldable pub angle_text : Rad → List ℕ
angle_text x = degrees_text x ++ (ascii " degrees, " ++ (hours_text x ++ ascii " hours\n"))

-- ---- a day

-- 0.9 seconds of time are 13.5" of hour angle
unfoldable pub open_text : Bool → List ℕ
open_text utc = cond utc (ascii "UT1 is taken for UTC: up to 13.5\" of hour angle stay open\n") []

unfoldable pub day_text : Float → Rad → Rad → Bool → List ℕ
day_text day mean apparent utc =
    ascii "Julian day              " ++ (exact_text day
    ++ (ascii "\nmean sidereal time      " ++ (angle_text mean
    ++ (ascii "apparent sidereal time  " ++ (angle_text apparent ++ open_text utc)))))

unfoldable pub day_of : Float → Bool → List ℕ
day_of day utc = cond (eqb (day_refusal day) 0) (day_text day (mean_of day) (apparent_of day) utc) (refused_text (day_refusal day))

-- bytes of the longest text, at most
abbrev pub room : ℕ
room = 320

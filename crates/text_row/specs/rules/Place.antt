-- A right ascension in hours, minutes and seconds of time, and a declination in degrees, minutes and seconds of arc, as text. Each becomes
-- a whole number of its last digit first, and that number is parted: no part is rounded by itself. A text is a list of bytes.
use Rattle.std.specs.Prelude.{ℕ, ◌/◌, ◌%◌, Bool, cond, List, ◌∷◌, ◌++◌, Float}
use Rattle.double.specs.rules.Operations.{bits, ◌⊗◌}
use Rattle.double.specs.rules.Sign.{size}
use Rattle.quantity.specs.declared.Deg.{Deg}
use Rattle.quantity.specs.declared.Rad.{Rad}
use Rattle.units.specs.rules.Degrees.{to_degrees}
use Rattle.units.specs.rules.Nearest.{nearest_whole, has_minus}
use Rattle.helpers.specs.rules.Angle.{within_two_PI}
use Rattle.text_number.specs.rules.Bytes.{minus_sign, plus_sign, point}
use Rattle.text_time.specs.rules.Time.{two_digits, three_digits, clock_text}

-- 240000.0: a degree is four minutes of time
abbrev pub milliseconds_of_degree : Float
milliseconds_of_degree = bits 0x410d4c0000000000

abbrev pub milliseconds : Deg → Float
milliseconds x = x.0 ⊗ milliseconds_of_degree

-- to the nearest millisecond within one turn: what rounds to 24 hours is 0
unfoldable pub milliseconds_of : Rad → ℕ
milliseconds_of x = nearest_whole (milliseconds (to_degrees (within_two_PI x))) % 86400000

-- hh:mm:ss.sss
unfoldable pub hours_text : Rad → List ℕ
hours_text x = let n = milliseconds_of x in clock_text (n / 1000) ++ (point ∷ three_digits (n % 1000))

-- 360000.0
abbrev pub hundredths_of_degree : Float
hundredths_of_degree = bits 0x4115f90000000000

abbrev pub hundredths : Deg → Float
hundredths x = x.0 ⊗ hundredths_of_degree

abbrev pub sign_of : Bool → ℕ
sign_of minus = cond minus minus_sign plus_sign

-- a sign and so many hundredths of a second: +dd:mm:ss.ss
unfoldable pub arc_text : Bool → ℕ → List ℕ
arc_text minus n = sign_of minus ∷ (clock_text (n / 100) ++ (point ∷ two_digits (n % 100)))

-- to the nearest hundredth, halves going away from zero; a minus sign stands before what is below zero once rounded
unfoldable pub degrees_text : Rad → List ℕ
degrees_text x =
    let y = hundredths (to_degrees x) in
    arc_text (has_minus y (nearest_whole (size y))) (nearest_whole (size y))

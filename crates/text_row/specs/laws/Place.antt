-- A place in its columns: a right ascension has twelve bytes, and so has a declination below a hundred degrees; what the parts say is the
-- whole number that was rounded to; and a whole turn is shown as none.
use Rattle.std.specs.Prelude.{ℕ, ◌+◌, ◌*◌, ◌/◌, ◌%◌, ◌<◌, ◌≡◌, refl, Bool, ◌∷◌, length}
use Rattle.std.proofs.Common.{mod-lt, arith, length-append}
use Rattle.std.specs.Float.Ieee.{neg}
use Rattle.double.specs.rules.Operations.{bits}
use Rattle.quantity.specs.declared.Rad.{Rad}
use Rattle.quantity.specs.rules.Angle.{rad}
use Rattle.text_number.specs.rules.Bytes.{ascii, point}
use Rattle.text_time.specs.rules.Time.{two_digits, three_digits, clock_text}
use Rattle.text_time.specs.laws.Clock.{two_digits_lem, three_digits_lem, clock_eight_bytes}
use Rattle.text_row.specs.rules.Place.{milliseconds_of, hours_text, arc_text, degrees_text}
use Rattle.text_row.specs.notions.Computed.{computed}

-- ---- a right ascension

pub milliseconds_below_a_day : (x : Rad) → milliseconds_of x < 86400000
unfolding milliseconds_of
milliseconds_below_a_day x = mod-lt _ (omega arith)

pub hours_twelve_bytes : (x : Rad) → length (hours_text x) ≡ 12
unfolding hours_text
hours_twelve_bytes x =
    let n = milliseconds_of x in
    let h = milliseconds_below_a_day x in
    omega (
      arith,
      length-append (clock_text (n / 1000)) (point ∷ three_digits (n % 1000)),
      clock_eight_bytes (n / 1000) (omega arith),
      three_digits_lem (n % 1000) (omega arith),
    )

-- hours, minutes, seconds and milliseconds
pub parts_say_milliseconds : (n : ℕ)
    → n / 1000 / 3600 * 3600000 + n / 1000 / 60 % 60 * 60000 + n / 1000 % 60 * 1000 + n % 1000 ≡ n
parts_say_milliseconds n = omega arith

-- −1e-20 is folded to 2·PI, which is 24 hours
pub whole_turn_is_none : hours_text (rad (neg (bits 0x3bc79ca10c924223))) ≡ ascii "00:00:00.000"
unfolding computed
whole_turn_is_none = refl

-- ---- a declination

pub arc_twelve_bytes : (minus : Bool) (n : ℕ) → n < 36000000 → length (arc_text minus n) ≡ 12
unfolding arc_text
arc_twelve_bytes minus n h =
    omega (
      arith,
      length-append (clock_text (n / 100)) (point ∷ two_digits (n % 100)),
      clock_eight_bytes (n / 100) (omega arith),
      two_digits_lem (n % 100) (omega arith),
    )

-- degrees, minutes, seconds and hundredths
pub parts_say_hundredths : (n : ℕ) → n / 100 / 3600 * 360000 + n / 100 / 60 % 60 * 6000 + n / 100 % 60 * 100 + n % 100 ≡ n
parts_say_hundredths n = omega arith

-- −1e-9 radians, which is 0.0002 seconds of arc
pub no_minus_before_zero : degrees_text (rad (neg (bits 0x3e112e0be826d695))) ≡ ascii "+00:00:00.00"
unfolding computed
no_minus_before_zero = refl

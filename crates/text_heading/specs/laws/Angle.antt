-- What the parts of an angle say is the whole number that was rounded to; and a heading that rounds to a turn is none.
use Rattle.std.specs.Prelude.{ℕ, ◌+◌, ◌*◌, ◌/◌, ◌%◌, ◌<◌, ◌≡◌, refl}
use Rattle.std.proofs.Common.{mod-lt, arith}
use Rattle.double.specs.rules.Operations.{bits}
use Rattle.quantity.specs.declared.Deg.{Deg}
use Rattle.quantity.specs.rules.Angle.{deg}
use Rattle.text_number.specs.rules.Bytes.{ascii}
use Rattle.text_heading.specs.rules.Angle.{circle_tenths, circle_text, angle_text}
use Rattle.text_heading.specs.notions.Computed.{computed}

-- degrees, minutes, seconds and tenths
pub parts_say_tenths : (n : ℕ) → n / 36000 * 36000 + n / 600 % 60 * 600 + n / 10 % 60 * 10 + n % 10 ≡ n
parts_say_tenths n = omega arith

pub heading_below_a_turn : (x : Deg) → circle_tenths x < 12960000
unfolding circle_tenths
heading_below_a_turn x = mod-lt _ (omega arith)

-- 359.99999
pub whole_turn_is_none : circle_text (deg (bits 0x40767ffff583a53c)) ≡ ascii "   0d00'00.0\""
unfolding computed
whole_turn_is_none = refl

-- −0.00001, which is 0.036 seconds
pub no_minus_before_zero : angle_text (deg (bits 0xbee4f8b588e368f1)) ≡ ascii "   0d00'00.0\""
unfolding computed
no_minus_before_zero = refl

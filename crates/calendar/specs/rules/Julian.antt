-- The Julian day of a time: the milliseconds since the day 0 over those of a day, one division of two whole numbers.
use Rattle.std.specs.Prelude.{ℕ, ◌+◌, ◌-◌, ◌*◌, cond, ℤ, unsigned_abs, Float}
use Rattle.double.specs.rules.Operations.{bits, ◌⊘◌}
use Rattle.double.specs.rules.Whole.{from_whole}
use Rattle.signed.specs.rules.Signed.{negative}

-- 86400000.0
abbrev pub day_in_millis : Float
day_in_millis = bits 0x4194997000000000

-- n + z, and 0 where that is below zero
abbrev pub plus : ℕ → ℤ → ℕ
plus n z = cond (negative z) (n - unsigned_abs z) (n + unsigned_abs z)

-- the day 0 begins at noon; `dut1` is UT1 − UTC
unfoldable pub millis_of : ℕ → ℕ → ℤ → ℕ
millis_of number millis dut1 = plus (86400000 * number + millis) dut1 - 43200000

unfoldable pub julian_of : ℕ → ℕ → ℤ → Float
julian_of number millis dut1 = from_whole (millis_of number millis dut1) ⊘ day_in_millis

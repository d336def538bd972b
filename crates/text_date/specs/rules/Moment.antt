-- What a text says as a Julian day.
use Rattle.std.specs.Prelude.{ℕ, List, ℤ, Float}
use Rattle.calendar.specs.rules.Julian.{julian_of}
use Rattle.text_date.specs.rules.Date.{Reading, is, none}
use Rattle.text_date.specs.rules.Time.{Time, on, time_rule}

-- `dut1` is UT1 − UTC, in milliseconds
abbrev pub moment_at : ℤ → Reading Time → Reading Float
moment_at dut1 (is (on n t)) = is (julian_of n t dut1)
moment_at dut1 (none k) = none k

unfoldable pub moment_rule : List ℕ → ℤ → Reading Float
moment_rule text dut1 = moment_at dut1 (time_rule text)

-- A command's word for a day: digits with at most one point as they were ever read; `J2000`; and else a date.
use Rattle.std.specs.Prelude.{ℕ, cond, List, ℤ, Float}
use Rattle.double.specs.rules.Operations.{bits}
use Rattle.text_number.specs.rules.Bytes.{ascii}
use Rattle.text_decimal.specs.rules.Decimal as decimal
use Rattle.text_word.specs.rules.Word.{is_word}
use Rattle.text_date.specs.rules.Date.{Reading, is}
use Rattle.text_date.specs.rules.Moment.{moment_rule}

-- 2451545.0
abbrev pub j2000 : Float
j2000 = bits 0x4142b42c80000000

unfoldable pub named_day : List ℕ → ℤ → Reading Float
named_day text dut1 = cond (is_word text (ascii "J2000")) (is j2000) (moment_rule text dut1)

abbrev pub or_named : List ℕ → ℤ → decimal.Reading → Reading Float
or_named text dut1 (decimal.is x) = is x
or_named text dut1 decimal.none = named_day text dut1

-- `dut1` is UT1 − UTC, in milliseconds
unfoldable pub day_rule : List ℕ → ℤ → Reading Float
day_rule text dut1 = or_named text dut1 (decimal.decimal_rule text)

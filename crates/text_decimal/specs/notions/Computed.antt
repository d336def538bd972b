-- What a theorem opens that works rules out at stated inputs: the reading of a day, over the operations on doubles.
use Rattle.std.specs.Prelude.{ℕ}
use Rattle.double.specs.notions.Computed as double
use Rattle.text_decimal.specs.rules.Decimal.{with_digit, with_point, with_byte, scanned, decimal_from, decimal_rule}

-- a name for the line below it, which is what counts
unfoldable pub computed : ℕ
unfolding double.computed with_digit with_point with_byte scanned decimal_from decimal_rule
computed = 0

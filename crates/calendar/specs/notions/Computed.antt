-- What a theorem opens that works rules out at stated inputs: the calendar, over the operations on doubles.
use Rattle.std.specs.Prelude.{ℕ}
use Rattle.double.specs.notions.Computed as double
use Rattle.calendar.specs.rules.Date.{leap, month_length, total, days_before, days_before_year}
use Rattle.calendar.specs.rules.Number.{number_of, number_rule}
use Rattle.calendar.specs.rules.Julian.{millis_of, julian_of}

-- a name for the line below it, which is what counts
unfoldable pub computed : ℕ
unfolding double.computed leap month_length total days_before days_before_year number_of number_rule millis_of julian_of
computed = 0

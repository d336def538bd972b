-- What a theorem opens that works rules out at stated texts: a date as text, over the calendar.
use Rattle.std.specs.Prelude.{ℕ}
use Rattle.calendar.specs.notions.Computed as calendar
use Rattle.text_date.specs.rules.Digits.{digit_of, joined, pair_at, year_at}
use Rattle.text_date.specs.rules.Date.{date_of}
use Rattle.text_date.specs.rules.Time.{is_clock, is_fraction, frac_byte, fraction_of, clock_in, with_time, with_number, time_rule}
use Rattle.text_date.specs.rules.Moment.{moment_rule}

-- a name for the line below it, which is what counts
unfoldable pub computed : ℕ
unfolding calendar.computed digit_of joined pair_at year_at date_of is_clock is_fraction frac_byte fraction_of clock_in with_time with_number time_rule moment_rule
computed = 0

-- What a theorem opens that works rules out at stated inputs: a command's word for a day, over decimals and dates.
use Rattle.std.specs.Prelude.{ℕ}
use Rattle.text_decimal.specs.notions.Computed as decimal
use Rattle.text_date.specs.notions.Computed as date
use Rattle.text_day.specs.rules.Day.{named_day, day_rule}
use Rattle.text_day.specs.rules.Reason.{reason_text, complaint_text}

-- a name for the line below it, which is what counts
unfoldable pub computed : ℕ
unfolding decimal.computed date.computed named_day day_rule reason_text complaint_text
computed = 0

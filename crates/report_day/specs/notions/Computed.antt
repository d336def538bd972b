-- What a theorem opens that works rules out at stated inputs: a day's text. Sidereal time stays shut.
use Rattle.std.specs.Prelude.{ℕ}
use Rattle.text_row.specs.notions.Computed as row
use Rattle.report_day.specs.rules.Digits.{digits_text, exact_text}
use Rattle.report_day.specs.rules.Day.{millionths_of, six_digits, degrees_text, angle_text, open_text, day_text}

-- a name for the line below it, which is what counts
unfoldable pub computed : ℕ
unfolding row.computed digits_text exact_text millionths_of six_digits degrees_text angle_text open_text day_text
computed = 0

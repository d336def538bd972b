-- What a theorem opens that works rules out at stated inputs: a star's line, over numbers as text and the operations on doubles.
use Rattle.std.specs.Prelude.{ℕ}
use Rattle.double.specs.notions.Computed as double
use Rattle.text_number.specs.notions.Computed as text
use Rattle.text_time.specs.rules.Time.{two_digits, three_digits, clock_text}
use Rattle.text_time.specs.rules.Line.{time_then, again_text, times_text, why_text, plan_line}

-- a name for the line below it, which is what counts
unfoldable pub computed : ℕ
unfolding double.computed text.computed two_digits three_digits clock_text time_then again_text times_text why_text plan_line
computed = 0

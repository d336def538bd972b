-- What a theorem opens that works rules out at stated inputs: the reading of an angle, over that of a day.
use Rattle.std.specs.Prelude.{ℕ}
use Rattle.text_decimal.specs.notions.Computed as day
use Rattle.text_degrees.specs.rules.Degrees.{with_sign, degrees_rule}

-- a name for the line below it, which is what counts
unfoldable pub computed : ℕ
unfolding day.computed with_sign degrees_rule
computed = 0

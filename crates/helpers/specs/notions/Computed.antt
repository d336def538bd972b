-- What a theorem opens that works rules out at stated inputs: the helpers, over answers and doubles.
use Rattle.std.specs.Prelude.{ℕ}
use Rattle.quantity.specs.notions.Computed as quantity
use Rattle.helpers.specs.rules.Angle.{limited}
use Rattle.helpers.specs.rules.Circle.{below_turn, on_circle, circle_refusal}

-- a name for the line below it, which is what counts
unfoldable pub computed : ℕ
unfolding quantity.computed limited below_turn on_circle circle_refusal
computed = 0

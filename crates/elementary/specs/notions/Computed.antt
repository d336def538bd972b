-- What a theorem opens that works rules out at stated inputs: sine, cosine and tangent, over answers and doubles.
use Rattle.std.specs.Prelude.{ℕ}
use Rattle.quantity.specs.notions.Computed as quantity
use Rattle.elementary.specs.rules.Fold.{fold}
use Rattle.elementary.specs.rules.Sine.{sin_cos_quarter, folded_sine, folded_cosine, sin_cos_of, two_sin_cos_of, sine_rule, cosine_rule, tangent_rule}
use Rattle.elementary.specs.rules.Direction.{direction_of, directions_of}

-- a name for the line below it, which is what counts
unfoldable pub computed : ℕ
unfolding quantity.computed fold sin_cos_quarter folded_sine folded_cosine sin_cos_of two_sin_cos_of sine_rule cosine_rule tangent_rule direction_of directions_of
computed = 0

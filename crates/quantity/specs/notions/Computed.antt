-- What a theorem opens that works rules out at stated inputs: answers and refusals, over the operations on doubles.
use Rattle.std.specs.Prelude.{ℕ}
use Rattle.double.specs.notions.Computed as double
use Rattle.quantity.specs.rules.Answer.{then, plus, added_to, taken_from, both}
use Rattle.quantity.specs.rules.Refusal.{day_refusal, angle_refusal, latitude_refusal, steep_refusal, distance_refusal, height_refusal}

-- a name for the line below it, which is what counts
unfoldable pub computed : ℕ
unfolding double.computed then plus added_to taken_from both day_refusal angle_refusal latitude_refusal steep_refusal distance_refusal height_refusal
computed = 0

-- What a theorem opens that works rules out at stated inputs: a mark's heading. A star's place stays shut.
use Rattle.std.specs.Prelude.{ℕ}
use Rattle.helpers.specs.notions.Computed as helpers
use Rattle.heading.specs.rules.Mark.{mark_in, mark_refusal, mark_heading_rule}

-- a name for the line below it, which is what counts
unfoldable pub computed : ℕ
unfolding helpers.computed mark_in mark_refusal mark_heading_rule
computed = 0

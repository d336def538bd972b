-- What a theorem opens that works rules out at stated texts: the reading of a line, over those of numbers and angles, and of a text.
use Rattle.std.specs.Prelude.{ℕ}
use Rattle.text_whole.specs.notions.Computed as whole
use Rattle.text_degrees.specs.notions.Computed as degrees
use Rattle.text_fields.specs.notions.Computed as fields
use Rattle.text_measured.specs.rules.Sight.{sight_from, with_dec, with_asc, sight_rule, line_rule}

-- a name for the line below it, which is what counts
unfoldable pub computed : ℕ
unfolding whole.computed degrees.computed fields.computed sight_from with_dec with_asc sight_rule line_rule
computed = 0

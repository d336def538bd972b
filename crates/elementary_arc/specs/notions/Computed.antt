-- What a theorem opens that works rules out at stated inputs: the elementary functions whole.
use Rattle.std.specs.Prelude.{ℕ}
use Rattle.root.specs.notions.Computed as root
use Rattle.elementary.specs.notions.Computed as elementary
use Rattle.elementary_arc.specs.rules.Arctangent.{arctangent_of, arctangent_in, arctangent_rule}
use Rattle.elementary_arc.specs.rules.Level.{arctangents_of}
use Rattle.elementary_arc.specs.rules.Arcsine.{arcsine_in, arcsine_rule}

-- a name for the line below it, which is what counts
unfoldable pub computed : ℕ
unfolding root.computed elementary.computed arctangent_of arctangent_in arctangent_rule arctangents_of arcsine_in arcsine_rule
computed = 0

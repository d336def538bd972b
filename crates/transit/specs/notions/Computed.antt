-- What a theorem opens that works rules out at stated inputs: rise, culmination and set, over the helpers and elementary functions.
use Rattle.std.specs.Prelude.{ℕ}
use Rattle.elementary_arc.specs.notions.Computed as elementary
use Rattle.helpers.specs.notions.Computed as helpers
use Rattle.transit.specs.rules.Arc.{arc_cosine, arc_in}
use Rattle.transit.specs.rules.RiseCulmSet.{fractions, rise_culm_set_in, observer_refusal, rise_culm_set_refusal}
use Rattle.transit.specs.rules.Observer.{planned_of}

-- a name for the line below it, which is what counts
unfoldable pub computed : ℕ
unfolding elementary.computed helpers.computed arc_cosine arc_in fractions rise_culm_set_in observer_refusal rise_culm_set_refusal planned_of
computed = 0

-- What a theorem opens that works rules out at stated inputs: a heading from the sidereal time and the reduced place on, and a mark's.
use Rattle.std.specs.Prelude.{ℕ}
use Rattle.elementary_arc.specs.notions.Computed as elementary
use Rattle.helpers.specs.notions.Computed as helpers
use Rattle.coords.specs.rules.Horizon.{azimuth_in, altitude_in}
use Rattle.heading.specs.rules.Sky.{northward, bearings, sky_from, sky_in, sky_under}
use Rattle.heading.specs.rules.Mark.{mark_in, mark_refusal, mark_heading_rule}

-- a name for the line below it, which is what counts
unfoldable pub computed : ℕ
unfolding elementary.computed helpers.computed azimuth_in altitude_in northward bearings sky_from sky_in sky_under mark_in mark_refusal mark_heading_rule
computed = 0

-- What a theorem opens that works rules out at stated inputs: precession, over the angles of two days and the elementary functions.
use Rattle.std.specs.Prelude.{ℕ}
use Rattle.elementary_arc.specs.notions.Computed as arc
use Rattle.precess_angles.specs.notions.Computed as angles
use Rattle.precess.specs.rules.Annual.{annual_m, annual_n, annual_at, annual_in}
use Rattle.precess.specs.rules.Equatorial.{arcs_of, precessed_from, precessed_in}

-- a name for the line below it, which is what counts
unfoldable pub computed : ℕ
unfolding arc.computed angles.computed annual_m annual_n annual_at annual_in arcs_of precessed_from precessed_in
computed = 0

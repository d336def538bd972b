-- What a theorem opens that works rules out at stated inputs: precession of the ecliptic, over the two days and the elementary functions.
use Rattle.std.specs.Prelude.{ℕ}
use Rattle.elementary_arc.specs.notions.Computed as arc
use Rattle.precess_angles.specs.rules.Days.{days_refusal}
use Rattle.precess_ecl.specs.rules.Ecliptic.{ecl_nu, ecl_pi, ecl_rho, ecl_precession_by, ecl_precession_of, ecl_precessed_from, ecl_precessed_in}
use Rattle.precess_ecl.specs.rules.Orbit.{leaned_of, new_inclination, new_node, node_and_perihelion, orbit_from, orbit_in}

-- a name for the line below it, which is what counts
unfoldable pub computed : ℕ
unfolding arc.computed days_refusal ecl_nu ecl_pi ecl_rho ecl_precession_by ecl_precession_of ecl_precessed_from ecl_precessed_in leaned_of new_inclination new_node node_and_perihelion orbit_from orbit_in
computed = 0

-- What a theorem opens that works rules out at stated inputs: the angles of two days, over the elementary functions.
use Rattle.std.specs.Prelude.{ℕ}
use Rattle.elementary.specs.notions.Computed as elementary
use Rattle.precess_angles.specs.rules.Days.{days_refusal}
use Rattle.precess_angles.specs.rules.Equatorial.{eq_xi, eq_zeta, eq_theta, eq_angles_of, precession_by, eq_precession_of}
use Rattle.precess_angles.specs.rules.Fk4.{fk4_xi, fk4_zeta, fk4_theta, degrees_as_radians, fk4_angle, fk4_angles_of, fk4_precession_of}

-- a name for the line below it, which is what counts
unfoldable pub computed : ℕ
unfolding elementary.computed days_refusal eq_xi eq_zeta eq_theta eq_angles_of precession_by eq_precession_of fk4_xi fk4_zeta fk4_theta degrees_as_radians fk4_angle fk4_angles_of fk4_precession_of
computed = 0

-- The angles of the FK4 system: the crate takes the three counts of degrees for radians, the published edition converts them.
-- c and t are tropical centuries.
use Rattle.std.specs.Prelude.{Float}
use Rattle.double.specs.rules.Operations.{◌⊕◌, ◌⊖◌, ◌⊗◌, ◌⊘◌}
use Rattle.quantity.specs.declared.Deg.{Deg}
use Rattle.quantity.specs.declared.Rad.{Rad}
use Rattle.quantity.specs.rules.Angle.{deg, rad}
use Rattle.edition.specs.declared.Edition.{Edition}
use Rattle.edition.specs.rules.Edition.{by_edition}
use Rattle.helpers.specs.rules.Angle.{arc, radians_of}
use Rattle.precess_angles.specs.declared.EqAngles.{EqAngles}
use Rattle.precess_angles.specs.declared.EqPrecession.{EqPrecession}
use Rattle.precess_angles.specs.rules.Numbers.{n2415020·3135, n36524·2199, n2304·25, n1·396, n0·302, n0·018, n0·791, n0·001, n2004·682, n0·853}
use Rattle.precess_angles.specs.rules.Numbers.{n0·426, n0·042}
use Rattle.precess_angles.specs.rules.Equatorial.{precession_by}

abbrev pub fk4_century : Float → Float
fk4_century day = (day ⊖ n2415020·3135) ⊘ n36524·2199

abbrev pub fk4_span : Float → Float → Float
fk4_span day1 day2 = (day2 ⊖ day1) ⊘ n36524·2199

unfoldable pub fk4_xi : Float → Float → Deg
fk4_xi c t =
    deg (t ⊗ (arc n2304·25 ⊕ c ⊗ arc n1·396 ⊕ t ⊗ (arc n0·302 ⊕ t ⊗ arc n0·018)))

unfoldable pub fk4_zeta : Deg → Float → Deg
fk4_zeta xi t = deg (xi.0 ⊕ t ⊗ t ⊗ (arc n0·791 ⊕ t ⊗ arc n0·001))

unfoldable pub fk4_theta : Float → Float → Deg
fk4_theta c t =
    deg (t ⊗ (arc n2004·682 ⊖ c ⊗ arc n0·853 ⊖ t ⊗ (arc n0·426 ⊕ t ⊗ arc n0·042)))

-- a count of degrees taken for radians: here and nowhere else
unfoldable pub degrees_as_radians : Deg → Rad
degrees_as_radians x = rad x.0

-- each of the three angles
unfoldable pub fk4_angle : Edition → Deg → Rad
fk4_angle e x = by_edition e (degrees_as_radians x) (radians_of x)

unfoldable pub fk4_angles_of : Edition → Float → Float → EqAngles
fk4_angles_of e day1 day2 =
    let c = fk4_century day1 in
    let t = fk4_span day1 day2 in
    record { xi = fk4_angle e (fk4_xi c t); zeta = fk4_angle e (fk4_zeta (fk4_xi c t) t); theta = fk4_angle e (fk4_theta c t) }

unfoldable pub fk4_precession_of : Edition → Float → Float → EqPrecession
fk4_precession_of e day1 day2 = precession_by (fk4_angles_of e day1 day2)

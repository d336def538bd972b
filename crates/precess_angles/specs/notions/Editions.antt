-- Each edition's angles written out whole, the crate's as they were before there were two.
use Rattle.std.specs.Prelude.{Float}
use Rattle.std.specs.Float.Ieee.{neg}
use Rattle.double.specs.rules.Operations.{◌⊕◌, ◌⊖◌, ◌⊗◌}
use Rattle.quantity.specs.declared.Deg.{Deg}
use Rattle.quantity.specs.declared.Rad.{Rad}
use Rattle.quantity.specs.rules.Angle.{deg}
use Rattle.helpers.specs.rules.Angle.{arc, radians_of}
use Rattle.helpers.specs.rules.Time.{century_of}
use Rattle.precess_angles.specs.declared.EqAngles.{EqAngles}
use Rattle.precess_angles.specs.rules.Numbers.{n1·09468, n0·000066, n0·018203, n0·000217, n2004·3109, n0·8533, n0·42665, n0·041833}
use Rattle.precess_angles.specs.rules.Days.{span_of}
use Rattle.precess_angles.specs.rules.Equatorial.{eq_shared, eq_xi}
use Rattle.precess_angles.specs.rules.Fk4.{fk4_century, fk4_span, fk4_xi, fk4_zeta, fk4_theta}

-- ---- equatorial precession

abbrev pub zeta_of_crate : Float → Float → Deg
zeta_of_crate c t = deg (eq_shared c t ⊕ t ⊗ t ⊗ ((arc n1·09468 ⊖ c ⊗ arc n0·000066) ⊕ t ⊗ arc n0·018203))

abbrev pub zeta_published : Float → Float → Deg
zeta_published c t = deg (eq_shared c t ⊕ t ⊗ t ⊗ ((arc n1·09468 ⊕ c ⊗ arc n0·000066) ⊕ t ⊗ arc n0·018203))

abbrev pub theta_of_crate : Float → Float → Deg
theta_of_crate c t =
    let y = c ⊗ arc n0·000217 in
    deg (t ⊗ (arc n2004·3109 ⊕ c ⊗ (arc n0·8533 ⊖ y) ⊖ t ⊗ ((arc n0·42665 ⊕ y) ⊕ t ⊗ arc n0·041833)))

abbrev pub theta_published : Float → Float → Deg
theta_published c t =
    let y = c ⊗ arc n0·000217 in
    deg (t ⊗ (arc n2004·3109 ⊕ c ⊗ (neg (arc n0·8533) ⊖ y) ⊖ t ⊗ ((arc n0·42665 ⊕ y) ⊕ t ⊗ arc n0·041833)))

-- by a second and a third angle
abbrev pub angles_by : (Float → Float → Deg) → (Float → Float → Deg) → Float → Float → EqAngles
angles_by zeta theta day1 day2 =
    let c = century_of day1 in
    let t = span_of day1 day2 in
    record { xi = radians_of (eq_xi c t); zeta = radians_of (zeta c t); theta = radians_of (theta c t) }

-- ---- the FK4 system, by what becomes of each angle

abbrev pub fk4_angles_by : (Deg → Rad) → Float → Float → EqAngles
fk4_angles_by angle day1 day2 =
    let c = fk4_century day1 in
    let t = fk4_span day1 day2 in
    record { xi = angle (fk4_xi c t); zeta = angle (fk4_zeta (fk4_xi c t) t); theta = angle (fk4_theta c t) }

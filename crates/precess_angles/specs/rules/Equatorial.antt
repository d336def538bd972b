-- The angles of equatorial precession (Meeus 21.2 and 21.3; the crate's edition has two signs otherwise):
-- c is the century of the first day, t the span of centuries from the first day to the second.
use Rattle.std.specs.Prelude.{Float}
use Rattle.std.specs.Float.Ieee.{neg}
use Rattle.double.specs.rules.Operations.{◌⊕◌, ◌⊖◌, ◌⊗◌}
use Rattle.quantity.specs.declared.Deg.{Deg}
use Rattle.quantity.specs.rules.Angle.{deg}
use Rattle.edition.specs.declared.Edition.{Edition}
use Rattle.edition.specs.rules.Edition.{by_edition}
use Rattle.elementary.specs.rules.Sine.{sine_of, cosine_of}
use Rattle.helpers.specs.rules.Angle.{arc, radians_of}
use Rattle.helpers.specs.rules.Time.{century_of}
use Rattle.precess_angles.specs.declared.EqAngles.{EqAngles}
use Rattle.precess_angles.specs.declared.EqPrecession.{EqPrecession}
use Rattle.precess_angles.specs.rules.Numbers.{n2306·2181, n1·39656, n0·000139, n0·30188, n0·000344, n0·017998, n1·09468, n0·000066, n0·018203}
use Rattle.precess_angles.specs.rules.Numbers.{n0·000217, n2004·3109, n0·8533, n0·42665, n0·041833}
use Rattle.precess_angles.specs.rules.Days.{span_of}

-- what the first two angles share
abbrev pub eq_shared : Float → Float → Float
eq_shared c t = t ⊗ (arc n2306·2181 ⊕ c ⊗ (arc n1·39656 ⊖ c ⊗ arc n0·000139))

unfoldable pub eq_xi : Float → Float → Deg
eq_xi c t = deg (eq_shared c t ⊕ t ⊗ t ⊗ ((arc n0·30188 ⊖ c ⊗ arc n0·000344) ⊕ t ⊗ arc n0·017998))

-- the crate's −0.000066, Meeus's +0.000066
unfoldable pub eq_zeta : Edition → Float → Float → Deg
eq_zeta e c t =
    let x = arc n1·09468 in
    let y = c ⊗ arc n0·000066 in
    deg (eq_shared c t ⊕ t ⊗ t ⊗ (by_edition e (x ⊖ y) (x ⊕ y) ⊕ t ⊗ arc n0·018203))

-- the crate's +0.8533, Meeus's −0.85330
unfoldable pub eq_theta : Edition → Float → Float → Deg
eq_theta e c t =
    let x = by_edition e (arc n0·8533) (neg (arc n0·8533)) in
    let y = c ⊗ arc n0·000217 in
    deg (t ⊗ (arc n2004·3109 ⊕ c ⊗ (x ⊖ y) ⊖ t ⊗ ((arc n0·42665 ⊕ y) ⊕ t ⊗ arc n0·041833)))

-- the three angles that two days fix
unfoldable pub eq_angles_of : Edition → Float → Float → EqAngles
eq_angles_of e day1 day2 =
    let c = century_of day1 in
    let t = span_of day1 day2 in
    record { xi = radians_of (eq_xi c t); zeta = radians_of (eq_zeta e c t); theta = radians_of (eq_theta e c t) }

-- the precession by three angles
unfoldable pub precession_by : EqAngles → EqPrecession
precession_by a = record { xi = a.xi; zeta = a.zeta; sine = sine_of a.theta; cosine = cosine_of a.theta }

unfoldable pub eq_precession_of : Edition → Float → Float → EqPrecession
eq_precession_of e day1 day2 = precession_by (eq_angles_of e day1 day2)

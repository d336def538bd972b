-- Wrong variants of the angles of two days.
use Rattle.std.specs.Prelude.{Float}
use Rattle.quantity.specs.rules.Angle.{deg}
use Rattle.edition.specs.declared.Edition.{Edition}
use Rattle.helpers.specs.rules.Angle.{radians_of}
use Rattle.helpers.specs.rules.Time.{century_of}
use Rattle.precess_angles.specs.declared.EqAngles.{EqAngles}
use Rattle.precess_angles.specs.rules.Days.{span_of}
use Rattle.precess_angles.specs.rules.Equatorial.{eq_xi, eq_zeta, eq_theta}
use Rattle.precess_angles.specs.rules.Fk4.{fk4_century, fk4_span, fk4_xi, fk4_zeta, fk4_theta, fk4_angle}

-- ---- equatorial precession

-- the second angle of one edition, the third of another
abbrev by : Edition → Edition → Float → Float → EqAngles
by e f c t = record { xi = radians_of (eq_xi c t); zeta = radians_of (eq_zeta e c t); theta = radians_of (eq_theta f c t) }

abbrev pub one_sign_of_each : Edition → Edition → Float → Float → EqAngles
one_sign_of_each e f day1 day2 = by e f (century_of day1) (span_of day1 day2)

-- from the second day to the first
abbrev pub span_backward : Edition → Float → Float → EqAngles
span_backward e day1 day2 = by e e (century_of day1) (span_of day2 day1)

-- ---- the FK4 system

-- the first two angles of one edition, the third of another
abbrev pub fk4_angles_of_each : Edition → Edition → Float → Float → EqAngles
fk4_angles_of_each e f day1 day2 =
    let c = fk4_century day1 in
    let t = fk4_span day1 day2 in
    record { xi = fk4_angle e (fk4_xi c t); zeta = fk4_angle e (fk4_zeta (fk4_xi c t) t); theta = fk4_angle f (fk4_theta c t) }

-- the second angle from a first one that was converted before
abbrev pub fk4_zeta_from_converted_xi : Edition → Float → Float → EqAngles
fk4_zeta_from_converted_xi e day1 day2 =
    let c = fk4_century day1 in
    let t = fk4_span day1 day2 in
    let xi = fk4_angle e (fk4_xi c t) in
    record { xi = xi; zeta = fk4_angle e (fk4_zeta (deg xi.0) t); theta = fk4_angle e (fk4_theta c t) }

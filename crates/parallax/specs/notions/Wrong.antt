-- Wrong variants of parallax.
use Rattle.std.specs.Prelude.{Float}
use Rattle.double.specs.rules.Operations.{bits, zero, ◌⊗◌, ◌⊘◌}
use Rattle.quantity.specs.declared.Rad.{Rad}
use Rattle.quantity.specs.declared.EqPoint.{EqPoint}
use Rattle.quantity.specs.declared.GeographPoint.{GeographPoint}
use Rattle.quantity.specs.rules.Angle.{deg, rad}
use Rattle.quantity.specs.rules.Answer.{Answer, Pair, first, second, unless, with, then}
use Rattle.quantity.specs.rules.Refusal.{lower, latitude_refusal, distance_refusal}
use Rattle.elementary.specs.rules.Fold.{fold}
use Rattle.elementary.specs.rules.Sine.{sine_of, cosine_of}
use Rattle.elementary_arc.specs.rules.Arcsine.{arcsine_in}
use Rattle.helpers.specs.rules.Angle.{arc, radians_of}
use Rattle.helpers_earth.specs.rules.Earth.{rho_in}
use Rattle.coords.specs.rules.HourAngle.{hr_angl_frm_observer_long}
use Rattle.parallax.specs.rules.Horizontal.{sun_parallax, eq_hz_parallax_in}
use Rattle.parallax.specs.rules.Equatorial.{topocent_at, topocent_in, topocent_refusal, topocent_eq_coords_rule}

-- ---- horizontal parallax

-- 8.8 for 8.794
abbrev pub another_parallax : Float → Answer Rad
another_parallax dist =
    unless (distance_refusal dist)
    (arcsine_in (sine_of (radians_of (deg (arc (bits 0x402199999999999a)))) ⊘ dist))

abbrev pub distance_multiplies : Float → Answer Rad
distance_multiplies dist = unless (distance_refusal dist) (arcsine_in (sun_parallax ⊗ dist))

abbrev pub distance_not_refused : Float → Answer Rad
distance_not_refused dist = eq_hz_parallax_in dist

-- ---- equatorial coordinates

-- to the right ascension
abbrev pub change_not_added : EqPoint → Rad → GeographPoint → Float → Rad → Answer EqPoint
change_not_added p parallax site height sidereal =
    with (λ (q : EqPoint). record { asc = p.asc; dec = q.dec }) (topocent_eq_coords_rule p parallax site height sidereal)

abbrev pub sine_of_parallax_is_cosine : EqPoint → Rad → GeographPoint → Float → Rad → Answer EqPoint
sine_of_parallax_is_cosine p parallax site height sidereal =
    unless (topocent_refusal p parallax site height sidereal)
    (then (rho_in (rad site.lat) height)
    (λ (rho : Pair). topocent_at (record { rho_sin = first rho; rho_cos = second rho; parallax = cosine_of parallax })
    (fold (hr_angl_frm_observer_long sidereal (rad site.long) (rad p.asc)))
    (fold (rad p.dec)) (rad p.asc)))

-- his latitude tested as a declination
abbrev pub observer_not_steep : EqPoint → Rad → GeographPoint → Float → Rad → Answer EqPoint
observer_not_steep p parallax site height sidereal =
    let rest = topocent_refusal p parallax (record { long = site.long; lat = zero }) height sidereal in
    unless (lower rest (latitude_refusal (rad site.lat))) (topocent_in p parallax site height sidereal)

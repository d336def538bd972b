-- Topocentric equatorial coordinates (Meeus 40.2 and 40.3, with the crate's arctangent for the declination):
-- the hour angle h and the declination d, folded.
use Rattle.std.specs.Prelude.{ℕ, Float}
use Rattle.std.specs.Float.Ieee.{neg}
use Rattle.double.specs.rules.Operations.{◌⊕◌, ◌⊖◌, ◌⊗◌}
use Rattle.quantity.specs.declared.Rad.{Rad}
use Rattle.quantity.specs.declared.EqPoint.{EqPoint}
use Rattle.quantity.specs.declared.GeographPoint.{GeographPoint}
use Rattle.quantity.specs.rules.Angle.{rad}
use Rattle.quantity.specs.rules.Answer.{Answer, answered, Pair, first, second, unless, then}
use Rattle.quantity.specs.rules.Refusal.{lower, angle_refusal, latitude_refusal}
use Rattle.elementary.specs.declared.Folded.{Folded}
use Rattle.elementary.specs.rules.Fold.{fold}
use Rattle.elementary.specs.rules.Sine.{folded_sine, folded_cosine, cosine_of}
use Rattle.elementary_arc.specs.rules.Arctangent.{arctangent_in}
use Rattle.helpers_earth.specs.rules.Earth.{rho_in}
use Rattle.coords.specs.rules.HourAngle.{hr_angl_frm_observer_long}
use Rattle.parallax.specs.declared.Centre.{Centre}
use Rattle.parallax.specs.rules.Observer.{centre_of, observer_refusal}

unfoldable pub eastward : Centre → Folded → Float
eastward c h = neg c.rho_cos ⊗ c.parallax ⊗ folded_sine h

unfoldable pub ahead : Centre → Folded → Folded → Float
ahead c h d = folded_cosine d ⊖ c.rho_cos ⊗ c.parallax ⊗ folded_cosine h

-- x is the second argument of both arctangents
unfoldable pub topocent_dec : Centre → Folded → Rad → Float → Answer Rad
topocent_dec c d change x =
    arctangent_in ((folded_sine d ⊖ c.rho_sin ⊗ c.parallax) ⊗ cosine_of change) x

unfoldable pub topocent_from : Centre → Folded → Rad → Rad → Float → Answer EqPoint
topocent_from c d asc change x =
    then (topocent_dec c d change x) (λ (dec : Rad). answered (record { asc = asc.0 ⊕ change.0; dec = dec.0 }))

unfoldable pub topocent_at : Centre → Folded → Folded → Rad → Answer EqPoint
topocent_at c h d asc =
    let x = ahead c h d in
    then (arctangent_in (eastward c h) x) (λ (change : Rad). topocent_from c d asc change x)

unfoldable pub topocent_in : EqPoint → Rad → GeographPoint → Float → Rad → Answer EqPoint
topocent_in p parallax site height sidereal =
    then (rho_in (rad site.lat) height)
    (λ (rho : Pair). topocent_at (centre_of (first rho) (second rho) parallax)
    (fold (hr_angl_frm_observer_long sidereal (rad site.long) (rad p.asc)))
    (fold (rad p.dec)) (rad p.asc))

abbrev pub topocent_refusal : EqPoint → Rad → GeographPoint → Float → Rad → ℕ
topocent_refusal p parallax site height sidereal =
    lower (lower (angle_refusal (rad p.asc)) (latitude_refusal (rad p.dec)))
    (observer_refusal parallax site height sidereal)

abbrev pub topocent_eq_coords_rule : EqPoint → Rad → GeographPoint → Float → Rad → Answer EqPoint
topocent_eq_coords_rule p parallax site height sidereal =
    unless (topocent_refusal p parallax site height sidereal) (topocent_in p parallax site height sidereal)

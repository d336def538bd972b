-- Topocentric ecliptic coordinates (Meeus, chapter 40; the crate's edition has another arctangent for the latitude):
-- longitude l, latitude b, local sidereal time s and obliquity e, folded; n is N.
use Rattle.std.specs.Prelude.{ℕ, cond, Float}
use Rattle.std.specs.Float.Ieee.{eq}
use Rattle.double.specs.rules.Operations.{zero, ◌⊕◌, ◌⊖◌, ◌⊗◌, ◌⊘◌}
use Rattle.quantity.specs.declared.Rad.{Rad}
use Rattle.quantity.specs.declared.EclPoint.{EclPoint}
use Rattle.quantity.specs.declared.GeographPoint.{GeographPoint}
use Rattle.quantity.specs.rules.Angle.{rad}
use Rattle.quantity.specs.rules.Answer.{Answer, answered, refused, Pair, first, second, Triple, triple, unless, then}
use Rattle.quantity.specs.rules.Refusal.{lower, angle_refusal, latitude_refusal}
use Rattle.edition.specs.declared.Edition.{Edition}
use Rattle.edition.specs.rules.Edition.{by_edition}
use Rattle.elementary.specs.declared.Folded.{Folded}
use Rattle.elementary.specs.rules.Fold.{fold}
use Rattle.elementary.specs.rules.Sine.{folded_sine, folded_cosine, sine_of, cosine_of}
use Rattle.elementary_arc.specs.rules.Arctangent.{arctangent_in}
use Rattle.elementary_arc.specs.rules.Arcsine.{arcsine_in}
use Rattle.helpers.specs.rules.Angle.{within_two_PI}
use Rattle.helpers_earth.specs.rules.Earth.{rho_in}
use Rattle.parallax.specs.declared.Centre.{Centre}
use Rattle.parallax.specs.rules.Observer.{centre_of, observer_refusal}

-- N
unfoldable pub nearby : Centre → Folded → Folded → Folded → Float
nearby c l b s = folded_cosine l ⊗ folded_cosine b ⊖ c.rho_cos ⊗ c.parallax ⊗ folded_cosine s

unfoldable pub long_top : Centre → Folded → Folded → Folded → Folded → Float → Answer Rad
long_top c l b s e n =
    arctangent_in
    (folded_sine l ⊗ folded_cosine b ⊖ c.parallax ⊗ (c.rho_sin ⊗ folded_sine e ⊕ c.rho_cos ⊗ folded_cosine e ⊗ folded_sine s)) n

-- what the latitude's arctangent goes by in either edition
unfoldable pub upward : Centre → Folded → Folded → Folded → Float
upward c b s e =
    folded_sine b ⊖ c.parallax ⊗ (c.rho_sin ⊗ folded_cosine e ⊖ c.rho_cos ⊗ folded_sine e ⊗ folded_sine s)

-- beyond the pole where N is below zero
unfoldable pub lat_of_crate : Float → Float → Float → Answer Rad
lat_of_crate up cos_long n = arctangent_in (cos_long ⊗ up) n

-- 6 where the cosine of the longitude is zero
unfoldable pub lat_published : Float → Float → Float → Answer Rad
lat_published up cos_long n = cond (eq cos_long zero) (refused 6) (arctangent_in up (n ⊘ cos_long))

unfoldable pub lat_top : Edition → Float → Float → Float → Answer Rad
lat_top edition up cos_long n = by_edition edition (lat_of_crate up cos_long n) (lat_published up cos_long n)

unfoldable pub semidiameter_in : Float → Rad → Rad → Float → Answer Rad
semidiameter_in cos_long lat semidiameter n =
    arcsine_in (cos_long ⊗ cosine_of lat ⊗ sine_of semidiameter ⊘ n)

unfoldable pub ecliptic_from : Rad → Float → Rad → Rad → Float → Answer Triple
ecliptic_from long cos_long lat semidiameter n =
    then (semidiameter_in cos_long lat semidiameter n)
    (λ (s : Rad). answered (triple (within_two_PI long).0 lat.0 s.0))

-- the semidiameter goes by the edition's latitude
unfoldable pub ecliptic_along : Edition → Float → Rad → Rad → Float → Answer Triple
ecliptic_along edition up long semidiameter n =
    let cos_long = cosine_of long in
    then (lat_top edition up cos_long n) (λ (lat : Rad). ecliptic_from long cos_long lat semidiameter n)

-- 6 where N is zero, as soon as it is worked out
unfoldable pub ecliptic_at : Edition → Centre → Folded → Folded → Folded → Folded → Rad → Answer Triple
ecliptic_at edition c l b s e semidiameter =
    let n = nearby c l b s in
    cond (eq n zero) (refused 6)
    (then (long_top c l b s e n) (λ (long : Rad). ecliptic_along edition (upward c b s e) long semidiameter n))

unfoldable pub ecliptic_in : Edition → EclPoint → Rad → GeographPoint → Float → Rad → Rad → Rad → Answer Triple
ecliptic_in edition p parallax site height sidereal oblq semidiameter =
    then (rho_in (rad site.lat) height)
    (λ (rho : Pair). ecliptic_at edition (centre_of (first rho) (second rho) parallax)
    (fold (rad p.long)) (fold (rad p.lat)) (fold sidereal) (fold oblq) semidiameter)

abbrev pub topopcent_refusal : EclPoint → Rad → GeographPoint → Float → Rad → Rad → Rad → ℕ
topopcent_refusal p parallax site height sidereal oblq semidiameter =
    lower
    (lower (lower (angle_refusal (rad p.long)) (latitude_refusal (rad p.lat)))
    (lower (angle_refusal oblq) (angle_refusal semidiameter)))
    (observer_refusal parallax site height sidereal)

abbrev pub topopcent_ecl_coords_rule : Edition → EclPoint → Rad → GeographPoint → Float → Rad → Rad → Rad → Answer Triple
topopcent_ecl_coords_rule edition p parallax site height sidereal oblq semidiameter =
    unless (topopcent_refusal p parallax site height sidereal oblq semidiameter)
    (ecliptic_in edition p parallax site height sidereal oblq semidiameter)

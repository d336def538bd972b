-- Topocentric ecliptic coordinates by a rule of the latitude, and the two rules that there are, the crate's as it was before there were two.
use Rattle.std.specs.Prelude.{cond, Float}
use Rattle.std.specs.Float.Ieee.{eq}
use Rattle.double.specs.rules.Operations.{zero, ◌⊖◌, ◌⊗◌, ◌⊘◌}
use Rattle.quantity.specs.declared.Rad.{Rad}
use Rattle.quantity.specs.declared.EclPoint.{EclPoint}
use Rattle.quantity.specs.declared.GeographPoint.{GeographPoint}
use Rattle.quantity.specs.rules.Angle.{rad}
use Rattle.quantity.specs.rules.Answer.{Answer, refused, Pair, first, second, Triple, unless, then}
use Rattle.elementary.specs.declared.Folded.{Folded}
use Rattle.elementary.specs.rules.Fold.{fold}
use Rattle.elementary.specs.rules.Sine.{folded_sine, folded_cosine, cosine_of}
use Rattle.elementary_arc.specs.rules.Arctangent.{arctangent_in}
use Rattle.helpers_earth.specs.rules.Earth.{rho_in}
use Rattle.parallax.specs.declared.Centre.{Centre}
use Rattle.parallax.specs.rules.Observer.{centre_of}
use Rattle.parallax_ecl.specs.rules.Ecliptic.{nearby, long_top, ecliptic_from, topopcent_refusal}

-- from latitude's numerator without the cosine, the longitude's cosine and N
abbrev pub of_crate : Float → Float → Float → Answer Rad
of_crate up cos_long n = arctangent_in (cos_long ⊗ up) n

abbrev pub published : Float → Float → Float → Answer Rad
published up cos_long n = cond (eq cos_long zero) (refused 6) (arctangent_in up (n ⊘ cos_long))

module _ (latitude : Float → Float → Float → Answer Rad) where
  abbrev along : Centre → Folded → Folded → Folded → Rad → Float → Rad → Answer Triple
  along c b s e semidiameter n long =
      let cos_long = cosine_of long in
      let up = folded_sine b ⊖ c.parallax ⊗ (c.rho_sin ⊗ folded_cosine e ⊖ c.rho_cos ⊗ folded_sine e ⊗ folded_sine s) in
      then (latitude up cos_long n) (λ (lat : Rad). ecliptic_from long cos_long lat semidiameter n)

  abbrev at : Centre → Folded → Folded → Folded → Folded → Rad → Answer Triple
  at c l b s e semidiameter =
      let n = nearby c l b s in
      cond (eq n zero) (refused 6) (then (long_top c l b s e n) (along c b s e semidiameter n))

  abbrev pub topopcent_by : EclPoint → Rad → GeographPoint → Float → Rad → Rad → Rad → Answer Triple
  topopcent_by p parallax site height sidereal oblq semidiameter =
      unless (topopcent_refusal p parallax site height sidereal oblq semidiameter)
      (then (rho_in (rad site.lat) height)
      (λ (rho : Pair). at (centre_of (first rho) (second rho) parallax)
      (fold (rad p.long)) (fold (rad p.lat)) (fold sidereal) (fold oblq) semidiameter))

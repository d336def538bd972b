-- Negate declination with latitude, and rise, culmination and set stay, refusals included: both products keep their bits.
use Rattle.std.specs.Prelude.{◌≡◌, Result, Float}
use Rattle.std.proofs.Common.{◌∙◌}
use Rattle.std.specs.Float.{binary64}
use Rattle.std.specs.Float.Ieee.{neg}
use Rattle.double.specs.laws.Mirror.{mul_neg_neg}
use Rattle.quantity.specs.declared.Refusal.{Refusal}
use Rattle.quantity.specs.declared.Rad.{Rad}
use Rattle.quantity.specs.declared.EqPoint.{EqPoint}
use Rattle.quantity.specs.declared.GeographPoint.{GeographPoint}
use Rattle.quantity.specs.rules.Angle.{rad, opposite}
use Rattle.quantity.specs.rules.Answer.{shown_three}
use Rattle.quantity.specs.laws.Refusal.{steep_opposite}
use Rattle.elementary.specs.rules.Sine.{sine_of}
use Rattle.elementary.specs.laws.Mirror.{sine_odd, cosine_even}
use Rattle.transit.specs.rules.Arc.{arc_cosine}
use Rattle.transit.specs.rules.RiseCulmSet.{rise_culm_set_in, observer_refusal, rise_culm_set_refusal, rise_culm_set_rule}
use Rattle.conditions.specs.laws.Answers.{one_triple}

-- a star and an observer on the other side of the equator
abbrev across_star : EqPoint → EqPoint
across_star p = record { asc = p.asc; dec = neg p.dec }

abbrev across_place : GeographPoint → GeographPoint
across_place place = record { long = place.long; lat = neg place.lat }

quotient_declination : (dec lat alt : Rad) → arc_cosine (opposite dec) (opposite lat) alt ≡ arc_cosine dec lat alt
unfolding arc_cosine
quotient_declination dec lat alt =
    rw (sine_odd lat, sine_odd dec, cosine_even lat, cosine_even dec, mul_neg_neg binary64 (sine_of lat) (sine_of dec))

module _ (p : EqPoint) (sidereal : Rad) (place : GeographPoint) (alt : Rad) where
  pub transit_declination : rise_culm_set_rule (across_star p) sidereal (across_place place) alt ≡ rise_culm_set_rule p sidereal place alt
  unfolding observer_refusal rise_culm_set_refusal rise_culm_set_in
  transit_declination =
      rw
      (steep_opposite (rad p.dec), steep_opposite (rad place.lat), quotient_declination (rad p.dec) (rad place.lat) alt)

  -- of the function: r is the answer, and s the answer in the mirror
  pub rise_culm_set_declination : (r s : Result (Float × Float × Float) Refusal) → shown_three r ≡ rise_culm_set_rule p sidereal place alt
      → shown_three s ≡ rise_culm_set_rule (across_star p) sidereal (across_place place) alt → s ≡ r
  rise_culm_set_declination r s meets meets' = one_triple s r (meets' ∙ transit_declination) meets

-- The limits: a quotient of exactly 1 or −1 is answered, the star then touching the altitude at its culmination or half a day from it;
-- and a fraction below zero by next to nothing is folded to 1.0 itself.
use Rattle.std.specs.Prelude.{◌≡◌, refl}
use Rattle.std.specs.Float.Ieee.{neg}
use Rattle.double.specs.rules.Operations.{bits, zero, one}
use Rattle.quantity.specs.declared.Rad.{Rad}
use Rattle.quantity.specs.declared.EqPoint.{EqPoint}
use Rattle.quantity.specs.declared.GeographPoint.{GeographPoint}
use Rattle.quantity.specs.rules.Angle.{rad, PI}
use Rattle.quantity.specs.rules.Answer.{answered, then}
use Rattle.transit.specs.rules.Arc.{arc_cosine, arc_in}
use Rattle.transit.specs.rules.RiseCulmSet.{within_a_day, culmination_of, fractions, rise_culm_set_in, rise_culm_set_refusal, rise_culm_set_rule}
use Rattle.transit.specs.notions.Computed.{computed}

-- ---- the arc of each limit

arc_of_one : arc_in one ≡ answered (rad zero)
unfolding computed
arc_of_one = refl

arc_of_minus_one : arc_in (neg one) ≡ answered (rad PI)
unfolding computed
arc_of_minus_one = refl

module _ (p : EqPoint) (sidereal : Rad) (site : GeographPoint) (alt : Rad) (none : rise_culm_set_refusal p sidereal site alt ≡ 0) where
  -- rise, culmination and set fall together
  pub quotient_of_one_answered : arc_cosine (rad p.dec) (rad site.lat) alt ≡ one
      → rise_culm_set_rule p sidereal site alt ≡ fractions (culmination_of (rad p.asc) sidereal (rad site.long)) (rad zero)
  unfolding rise_culm_set_in then
  quotient_of_one_answered q = rw (none, q, arc_of_one)

  -- rise and set are half a day from the culmination
  pub quotient_of_minus_one_answered : arc_cosine (rad p.dec) (rad site.lat) alt ≡ neg one
      → rise_culm_set_rule p sidereal site alt ≡ fractions (culmination_of (rad p.asc) sidereal (rad site.long)) (rad PI)
  unfolding rise_culm_set_in then
  quotient_of_minus_one_answered q = rw (none, q, arc_of_minus_one)

-- −2^−60
pub tiny_folded_to_one : within_a_day (neg (bits 0x3c30000000000000)) ≡ one
unfolding computed
tiny_folded_to_one = refl

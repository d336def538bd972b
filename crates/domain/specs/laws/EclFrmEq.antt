-- Ecliptic coordinates from equatorial ones: the longitude is half a turn at most in size, the latitude a quarter, and of arguments that
-- are not refused 7 is the only refusal. 14 never comes: no cosine is zero, and an arcsine never meets it.
use Rattle.std.specs.Prelude.{ℕ, ◌≡◌}
use Rattle.std.proofs.Math.Path.{refl}
use Rattle.std.specs.Float.Ieee.{neg, add, sub, mul, le, of_bits, round}
use Rattle.double.specs.rules.Sign.{size, is_finite}
use Rattle.double.specs.rules.Order.{◌≼◌, Finite, Between}
use Rattle.double.specs.notions.Range.{known, ◌⊞◌, ◌⊟◌, ◌⊠◌}
use Rattle.double.specs.laws.Between.{between→size}
use Rattle.quantity.specs.declared.Rad.{Rad}
use Rattle.quantity.specs.declared.EclPoint.{EclPoint}
use Rattle.quantity.specs.rules.Angle.{PI, HALF}
use Rattle.quantity.specs.rules.Answer.{answered, refused, Pair, first, second, both}
use Rattle.quantity.specs.rules.Refusal.{angle_refusal, steep_refusal}
use Rattle.elementary.specs.rules.Sine.{cosine_of}
use Rattle.elementary.specs.laws.Sine.{sine_between, cosine_between}
use Rattle.coords_ecl.specs.rules.Arguments.{steep_frame_refusal}
use Rattle.coords_ecl.specs.rules.Point.{point_of}
use Rattle.coords_ecl.specs.rules.Ecliptic.{longitude_sum, longitude_in, latitude_sum, latitude_in, ecl_frm_eq_in, ecl_frm_eq_rule}
use Rattle.domain_accepted.specs.notions.Within.{Angle}
use Rattle.domain_accepted.specs.notions.Outcome.{Outcome, Seven}
use Rattle.domain_accepted.specs.laws.Outcome.{outcome_with, outcome_both, rule_answers, rule_refuses}
use Rattle.domain_accepted.specs.laws.Elementary.{arctangent_outcome_of, second_not_zero, arcsine_outcome}
use Rattle.domain_accepted.specs.laws.Near.{within}
use Rattle.domain_accepted.specs.laws.Accepted.{none_of_three, angle_sine, angle_cosine, steep_far, steep_tangent}
use Rattle.domain_accepted.specs.laws.Cosine.{cosine_never_zero}

-- a longitude of half a turn at most and a latitude of a quarter turn at most
abbrev Placed : EclPoint → Type 0
Placed p = Between (neg PI) PI p.long × Between (neg HALF) HALF p.lat

module _ (a d e : Rad) where
  module _ (none : steep_frame_refusal a d e ≡ 0) where
    accepted : (angle_refusal a ≡ 0) × (steep_refusal d ≡ 0) × (angle_refusal e ≡ 0)
    accepted = none_of_three (angle_refusal a) (steep_refusal d) (angle_refusal e) none

    longitude_outcome : Outcome (Angle (Between (neg PI) PI)) Seven (longitude_in a d e)
    unfolding longitude_in is_finite le neg add mul of_bits round
    longitude_outcome =
        let n = accepted in
        arctangent_outcome_of (longitude_sum a d e) (cosine_of a)
        (within 32768 (known (angle_sine a n.0) ⊠ known (angle_cosine e n.2) ⊞ known (steep_tangent d n.1) ⊠ known (angle_sine e n.2)) tt).finite
        (angle_cosine a n.0).finite
        (second_not_zero (longitude_sum a d e) (cosine_of a) (cosine_never_zero a n.0))

    latitude_outcome : Outcome (Angle (Between (neg HALF) HALF)) Seven (latitude_in a d e)
    unfolding latitude_in is_finite le neg add sub mul of_bits round
    latitude_outcome =
        let n = accepted in
        let far = steep_far d n.1 in
        arcsine_outcome refl (latitude_sum a d e)
        (within 32768 (known (sine_between d far) ⊠ known (angle_cosine e n.2) ⊟ known (cosine_between d far) ⊠ known (angle_sine e n.2) ⊠ known (angle_sine a n.0)) tt).finite

    outcome : Outcome Placed Seven (ecl_frm_eq_in a d e)
    unfolding ecl_frm_eq_in point_of
    outcome =
        outcome_with (λ (q : Pair). record { long = first q; lat = second q }) (λ q i. i) (both (longitude_in a d e) (latitude_in a d e))
        (outcome_both (Between (neg PI) PI) (Between (neg HALF) HALF) (longitude_in a d e) (latitude_in a d e) longitude_outcome latitude_outcome)

  placed : (p : EclPoint) → ecl_frm_eq_rule a d e ≡ answered p → Placed p
  placed = rule_answers (steep_frame_refusal a d e) (ecl_frm_eq_in a d e) outcome

  pub ecl_frm_eq_finite : (p : EclPoint) → ecl_frm_eq_rule a d e ≡ answered p → Finite p.long × Finite p.lat
  ecl_frm_eq_finite p answer = let i = placed p answer in (i.0.finite, i.1.finite)

  pub longitude_at_most_half_turn : (p : EclPoint) → ecl_frm_eq_rule a d e ≡ answered p → size p.long ≼ PI
  longitude_at_most_half_turn p answer = between→size PI p.long (placed p answer).0

  pub latitude_at_most_quarter_turn : (p : EclPoint) → ecl_frm_eq_rule a d e ≡ answered p → size p.lat ≼ HALF
  latitude_at_most_quarter_turn p answer = between→size HALF p.lat (placed p answer).1

  pub ecl_frm_eq_refuses : steep_frame_refusal a d e ≡ 0 → (n : ℕ) → ecl_frm_eq_rule a d e ≡ refused n → n ≡ 7
  ecl_frm_eq_refuses = rule_refuses (steep_frame_refusal a d e) (ecl_frm_eq_in a d e) outcome

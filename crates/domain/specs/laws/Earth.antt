-- The observer's place from the Earth's centre, for arguments that are not refused: it is answered, by numbers up to 2.0 in size.
use Rattle.std.specs.Prelude.{ℕ, ◌≡◌, Float}
use Rattle.std.specs.Float.Ieee.{neg, add, mul, div, eq, le, of_bits, round}
use Rattle.double.specs.rules.Operations.{one, ◌⊕◌, ◌⊗◌, ◌⊘◌}
use Rattle.double.specs.rules.Sign.{size, is_finite}
use Rattle.double.specs.rules.Order.{◌≼◌}
use Rattle.double.specs.notions.Range.{known, con, ◌⊞◌, ◌⊠◌, ◌⧄◌}
use Rattle.quantity.specs.declared.Rad.{Rad}
use Rattle.quantity.specs.rules.Answer.{answered, refused, Pair, pair}
use Rattle.quantity.specs.rules.Refusal.{steep_refusal, height_refusal}
use Rattle.elementary.specs.rules.Fold.{fold}
use Rattle.elementary.specs.rules.Sine.{sine_of, cosine_of, tangent_of, farthest_alone}
use Rattle.elementary_arc.specs.rules.Arctangent.{arctangent_in}
use Rattle.quantity.specs.laws.Accepted.{lower_none, height_accepted}
use Rattle.elementary.specs.laws.Sine.{sine_between, cosine_between}
use Rattle.helpers_earth.specs.rules.Earth.{ratio, radius, rho_at, rho_in, rho_refusal, rho_sin_cos_phi_rule}
use Rattle.domain_accepted.specs.laws.Accepted.{steep_far, steep_tangent}
use Rattle.domain_accepted.specs.notions.Outcome.{Outcome, Never}
use Rattle.domain_accepted.specs.notions.Within.{Angle, Within, BothFinite, BothWithin}
use Rattle.domain_accepted.specs.laws.Outcome.{outcome_answered, outcome_wider, outcome_then, rule_answers, rule_refuses}
use Rattle.domain_accepted.specs.laws.Elementary.{arctangent_outcome_of, second_not_zero}
use Rattle.domain_accepted.specs.laws.Near.{within, near_far, near_sine, near_cosine}

module _ (lat : Rad) (height : Float) (L : steep_refusal lat ≡ 0) (H : height_refusal height ≡ 0) where
  -- u, which goes into a sine: its second argument is 1, so that 14 is never met
  u_outcome : {Q : ℕ → Type 0} → Outcome (Angle (Within 2048)) Q (arctangent_in (ratio ⊗ tangent_of lat) one)
  unfolding is_finite eq le neg mul of_bits round
  u_outcome =
      outcome_wider (λ v i. within 2048 (known i) tt)
      (arctangent_outcome_of (ratio ⊗ tangent_of lat) one (within 32768 (con ratio ⊠ known (steep_tangent lat L)) tt).finite tt
      (second_not_zero (ratio ⊗ tangent_of lat) one tt))

  pub u_far : (u : Rad) → arctangent_in (ratio ⊗ tangent_of lat) one ≡ answered u → size u.0 ≼ farthest_alone
  u_far u e = near_far u.0 ((u_outcome {Q = Never}).answers u e)

  pub rho_outcome : {Q : ℕ → Type 0} → Outcome (BothWithin 2) Q (rho_in lat height)
  unfolding rho_in is_finite le neg add mul div of_bits round
  rho_outcome =
      outcome_then (λ (u : Rad). rho_at (fold u) (fold lat) height)
      (λ x U.
      let h = known (height_accepted height H) ⧄ con radius in
      outcome_answered
      (pair (ratio ⊗ sine_of x ⊕ height ⊘ radius ⊗ sine_of lat) (cosine_of x ⊕ height ⊘ radius ⊗ cosine_of lat)) (
        within 2 (con ratio ⊠ known (near_sine x U) ⊞ h ⊠ known (sine_between lat (steep_far lat L))) tt,
        within 2 (known (near_cosine x U) ⊞ h ⊠ known (cosine_between lat (steep_far lat L))) tt,
      ))
      (arctangent_in (ratio ⊗ tangent_of lat) one) u_outcome

module _ (lat : Rad) (height : Float) where
  outcome : rho_refusal lat height ≡ 0 → Outcome BothFinite Never (rho_in lat height)
  outcome e =
      let n = lower_none (steep_refusal lat) (height_refusal height) e in
      outcome_wider (λ p i. (i.0.finite, i.1.finite)) (rho_outcome lat height n.0 n.1)

  pub rho_sin_cos_phi_finite : (p : Pair) → rho_sin_cos_phi_rule lat height ≡ answered p → BothFinite p
  rho_sin_cos_phi_finite = rule_answers (rho_refusal lat height) (rho_in lat height) outcome

  pub rho_sin_cos_phi_refuses : rho_refusal lat height ≡ 0 → (n : ℕ) → rho_sin_cos_phi_rule lat height ≡ refused n → ⊥
  rho_sin_cos_phi_refuses = rule_refuses (rho_refusal lat height) (rho_in lat height) outcome

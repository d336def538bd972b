-- Annual precession of arguments that are not refused is answered, by finite numbers.
use Rattle.std.specs.Prelude.{ℕ, ◌≡◌, Float}
use Rattle.std.specs.Float.Ieee.{neg, add, sub, mul, div, le, of_bits, round}
use Rattle.double.specs.rules.Sign.{is_finite}
use Rattle.double.specs.notions.Range.{known, con, ◌⊞◌, ◌⊟◌, ◌⊠◌}
use Rattle.quantity.specs.declared.Rad.{Rad}
use Rattle.quantity.specs.rules.Answer.{answered, refused, Pair, pair}
use Rattle.quantity.specs.rules.Refusal.{lower, day_refusal, angle_refusal, steep_refusal}
use Rattle.elementary.specs.rules.Sine.{sine_of, cosine_of, tangent_of}
use Rattle.quantity.specs.laws.Accepted.{lower_none}
use Rattle.double.specs.rules.Operations.{◌⊕◌, ◌⊗◌}
use Rattle.helpers.specs.rules.Angle.{hour_arc, degree, radians_of}
use Rattle.helpers.specs.rules.Time.{century_of}
use Rattle.precess.specs.rules.Numbers.{n3·07496, n0·00186, n1·33621, n0·00057}
use Rattle.precess.specs.rules.Annual.{annual_m, annual_n, annual_at, annual_in, annual_refusal, annual_precess_rule}
use Rattle.domain_accepted.specs.laws.Accepted.{angle_sine, angle_cosine, steep_tangent}
use Rattle.domain_accepted.specs.notions.Outcome.{Outcome, Never}
use Rattle.domain_accepted.specs.notions.Within.{Within, BothFinite}
use Rattle.domain_accepted.specs.laws.Outcome.{outcome_answered, rule_answers, rule_refuses}
use Rattle.domain_accepted.specs.laws.Near.{within}
use Rattle.domain.specs.laws.Days.{century_within}

module _ (c : Float) (C : Within 20 c) where
  m_within : Within 1 (radians_of (annual_m c)).0
  unfolding annual_m is_finite le neg add sub mul div of_bits round
  m_within = within 1 ((con (hour_arc n3·07496) ⊞ con (hour_arc n0·00186) ⊠ known C) ⊠ con degree) tt

  n_within : Within 1 (radians_of (annual_n c)).0
  unfolding annual_n is_finite le neg add sub mul div of_bits round
  n_within = within 1 ((con (hour_arc n1·33621) ⊟ con (hour_arc n0·00057) ⊠ known C) ⊠ con degree) tt

module _ (asc dec : Rad) (day : Float) where
  annual_outcome : annual_refusal asc dec day ≡ 0 → Outcome BothFinite Never (annual_in asc dec day)
  unfolding annual_in annual_at is_finite le neg add sub mul of_bits round
  annual_outcome e =
      let c = century_of day in
      let n = lower_none (lower (angle_refusal asc) (steep_refusal dec)) (day_refusal day) e in
      let k = lower_none (angle_refusal asc) (steep_refusal dec) n.0 in
      let C = century_within day n.1 in
      let M = known (m_within c C) in
      let N = known (n_within c C) in
      outcome_answered
      (pair ((radians_of (annual_m c)).0 ⊕ (radians_of (annual_n c)).0 ⊗ sine_of asc ⊗ tangent_of dec) ((radians_of (annual_n c)).0 ⊗ cosine_of asc))
      ((within 32768 (M ⊞ N ⊠ known (angle_sine asc k.0) ⊠ known (steep_tangent dec k.1)) tt).finite, (within 1 (N ⊠ known (angle_cosine asc k.0)) tt).finite)

  pub annual_precess_finite : (p : Pair) → annual_precess_rule asc dec day ≡ answered p → BothFinite p
  annual_precess_finite = rule_answers (annual_refusal asc dec day) (annual_in asc dec day) annual_outcome

  pub annual_precess_refuses : annual_refusal asc dec day ≡ 0 → (n : ℕ) → annual_precess_rule asc dec day ≡ refused n → ⊥
  annual_precess_refuses = rule_refuses (annual_refusal asc dec day) (annual_in asc dec day) annual_outcome

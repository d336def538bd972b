-- Nutation of a point whose arguments are not refused is answered, by finite numbers.
use Rattle.std.specs.Prelude.{ℕ, ◌≡◌}
use Rattle.std.specs.Float.Ieee.{neg, add, sub, mul, le, of_bits, round}
use Rattle.double.specs.rules.Sign.{is_finite}
use Rattle.double.specs.notions.Range.{known, ◌⊞◌, ◌⊟◌, ◌⊠◌}
use Rattle.quantity.specs.declared.Rad.{Rad}
use Rattle.quantity.specs.declared.EqPoint.{EqPoint}
use Rattle.quantity.specs.rules.Answer.{answered, refused, Pair, pair}
use Rattle.quantity.specs.rules.Refusal.{lower, angle_refusal, steep_refusal}
use Rattle.quantity.specs.rules.Angle.{rad}
use Rattle.elementary.specs.rules.Direction.{direction_of}
use Rattle.quantity.specs.laws.Accepted.{lower_none}
use Rattle.nutation.specs.rules.Point.{nutation_at, nutation_in_refusal, nutation_in_eq_coords_in, nutation_in_eq_coords_rule}
use Rattle.domain_accepted.specs.laws.Accepted.{none_of_three, angle_between, angle_sine, angle_cosine, steep_tangent}
use Rattle.domain_accepted.specs.notions.Outcome.{Outcome, Never}
use Rattle.domain_accepted.specs.notions.Within.{BothFinite, BothWithin}
use Rattle.domain_accepted.specs.laws.Outcome.{outcome_answered, rule_answers, rule_refuses}
use Rattle.domain_accepted.specs.laws.Near.{within}

module _ (p : EqPoint) (long oblq tru : Rad) where
  abbrev shifted : Pair
  shifted = pair (nutation_in_eq_coords_in p long oblq tru).asc.0 (nutation_in_eq_coords_in p long oblq tru).dec.0

  outcome : nutation_in_refusal p long oblq tru ≡ 0 → Outcome (BothWithin 4194304) Never (answered shifted)
  unfolding nutation_in_eq_coords_in nutation_at direction_of is_finite le neg add sub mul of_bits round
  outcome e =
      let asc = rad p.asc in
      let dec = rad p.dec in
      let n = lower_none (lower (angle_refusal asc) (steep_refusal dec)) (lower (angle_refusal long) (lower (angle_refusal oblq) (angle_refusal tru))) e in
      let m = lower_none (angle_refusal asc) (steep_refusal dec) n.0 in
      let k = none_of_three (angle_refusal long) (angle_refusal oblq) (angle_refusal tru) n.1 in
      let sa = known (angle_sine asc m.0) in
      let ca = known (angle_cosine asc m.0) in
      let tan = known (steep_tangent dec m.1) in
      let L = known (angle_between long k.0) in
      let O = known (angle_between oblq k.1) in
      let s = known (angle_sine tru k.2) in
      let c = known (angle_cosine tru k.2) in
      outcome_answered shifted
      (within 4194304 (L ⊠ (c ⊞ s ⊠ sa ⊠ tan) ⊟ ca ⊠ tan ⊠ O) tt, within 4194304 (s ⊠ ca ⊠ L ⊞ sa ⊠ O) tt)

  pub nutation_in_eq_coords_answers : (v : Pair) → nutation_in_eq_coords_rule p long oblq tru ≡ answered v → BothWithin 4194304 v
  unfolding nutation_in_eq_coords_rule
  nutation_in_eq_coords_answers = rule_answers (nutation_in_refusal p long oblq tru) (answered shifted) outcome

  pub nutation_in_eq_coords_finite : (v : Pair) → nutation_in_eq_coords_rule p long oblq tru ≡ answered v → BothFinite v
  nutation_in_eq_coords_finite v e =
      let i = nutation_in_eq_coords_answers v e in
      (i.0.finite, i.1.finite)

  pub nutation_in_eq_coords_refuses : nutation_in_refusal p long oblq tru ≡ 0 → (n : ℕ)
      → nutation_in_eq_coords_rule p long oblq tru ≡ refused n → ⊥
  unfolding nutation_in_eq_coords_rule
  nutation_in_eq_coords_refuses = rule_refuses (nutation_in_refusal p long oblq tru) (answered shifted) outcome

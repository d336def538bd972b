-- Stellar aberration on a day and of a point that are not refused is answered, by finite numbers.
use Rattle.std.specs.Prelude.{ℕ, ◌≡◌, Float}
use Rattle.std.specs.Float.Ieee.{neg, add, sub, mul, div, le, of_bits, round}
use Rattle.double.specs.rules.Sign.{is_finite}
use Rattle.double.specs.notions.Range.{known, con, ◌⊞◌, ◌⊟◌, ◌⊠◌, ◌⧄◌}
use Rattle.double.specs.laws.Between.{between_neg}
use Rattle.quantity.specs.declared.EqPoint.{EqPoint}
use Rattle.quantity.specs.rules.Answer.{answered, refused, Pair, pair}
use Rattle.quantity.specs.rules.Refusal.{lower, day_refusal, angle_refusal, steep_refusal}
use Rattle.quantity.specs.rules.Angle.{rad}
use Rattle.elementary.specs.rules.Direction.{direction_of}
use Rattle.quantity.specs.laws.Accepted.{lower_none, steep_accepted}
use Rattle.elementary.specs.laws.Sine.{sine_between, cosine_steep}
use Rattle.helpers.specs.rules.Time.{century_of}
use Rattle.aberr_table.specs.rules.Velocity.{velocity_of}
use Rattle.aberr.specs.rules.Star.{light, aberr_at, stell_aberr_refusal, stell_aberr_in_eq_coords_in, stell_aberr_in_eq_coords_rule}
use Rattle.domain_accepted.specs.laws.Accepted.{angle_sine, angle_cosine, steep_far}
use Rattle.domain_accepted.specs.notions.Outcome.{Outcome, Never}
use Rattle.domain_accepted.specs.notions.Within.{Within, BothFinite, BothWithin}
use Rattle.domain_accepted.specs.laws.Outcome.{outcome_answered, rule_answers, rule_refuses}
use Rattle.domain_accepted.specs.laws.Near.{within}
use Rattle.domain.specs.laws.Days.{century_within}
use Rattle.domain.specs.laws.AberrationSum.{velocity_held}

module _ (p : EqPoint) (day : Float) where
  abbrev shifted : Pair
  shifted = pair (stell_aberr_in_eq_coords_in p day).asc.0 (stell_aberr_in_eq_coords_in p day).dec.0

  outcome : stell_aberr_refusal p day ≡ 0 → Outcome (BothWithin 8) Never (answered shifted)
  unfolding stell_aberr_in_eq_coords_in aberr_at direction_of velocity_of is_finite le neg add sub mul div of_bits round
  outcome e =
      let asc = rad p.asc in
      let dec = rad p.dec in
      let n = lower_none (lower (angle_refusal asc) (steep_refusal dec)) (day_refusal day) e in
      let m = lower_none (angle_refusal asc) (steep_refusal dec) n.0 in
      let held = velocity_held (century_of day) (century_within day n.1) in
      let sa = known (angle_sine asc m.0) in
      let ca = known (angle_cosine asc m.0) in
      let sd = known (sine_between dec (steep_far dec m.1)) in
      let cd = known (cosine_steep dec (steep_accepted dec m.1)) in
      let top = within 16777216 ((known held.x ⊠ ca ⊞ known held.y ⊠ sa) ⊠ sd ⊟ known held.z ⊠ cd) tt in
      outcome_answered shifted
      (within 8 ((known held.y ⊠ ca ⊟ known held.x ⊠ sa) ⧄ (con light ⊠ cd)) tt, within 8 (known (between_neg top) ⧄ con light) tt)

  pub stell_aberr_in_eq_coords_answers : (v : Pair) → stell_aberr_in_eq_coords_rule p day ≡ answered v → BothWithin 8 v
  unfolding stell_aberr_in_eq_coords_rule
  stell_aberr_in_eq_coords_answers = rule_answers (stell_aberr_refusal p day) (answered shifted) outcome

  pub stell_aberr_in_eq_coords_finite : (v : Pair) → stell_aberr_in_eq_coords_rule p day ≡ answered v → BothFinite v
  stell_aberr_in_eq_coords_finite v e =
      let i = stell_aberr_in_eq_coords_answers v e in
      (i.0.finite, i.1.finite)

  pub stell_aberr_in_eq_coords_refuses : stell_aberr_refusal p day ≡ 0 → (n : ℕ) → stell_aberr_in_eq_coords_rule p day ≡ refused n → ⊥
  unfolding stell_aberr_in_eq_coords_rule
  stell_aberr_in_eq_coords_refuses = rule_refuses (stell_aberr_refusal p day) (answered shifted) outcome

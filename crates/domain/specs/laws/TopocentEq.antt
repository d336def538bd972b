-- Topocentric equatorial coordinates of arguments that are not refused: each angle that is worked out stays far below 400000.0, each
-- answer is finite, and 14 is the only refusal that the work meets: exactly where both arguments of one of its two arctangents are
-- zero.
use Rattle.std.specs.Prelude.{ℕ, ◌≡◌, Bool, cond, ◌||◌, ◌↔◌, Float}
use Rattle.std.proofs.Math.Path.{refl}
use Rattle.std.proofs.Common.{sym}
use Rattle.std.proofs.Math.Bool.{true, false}
use Rattle.std.proofs.Math.Dec.{T}
use Rattle.std.specs.Float.Ieee.{neg, add, sub, mul, le, of_bits, round}
use Rattle.double.specs.rules.Operations.{◌⊕◌, ◌⊖◌, ◌⊗◌}
use Rattle.double.specs.rules.Sign.{size, is_finite}
use Rattle.double.specs.rules.Order.{◌≼◌}
use Rattle.double.specs.notions.Range.{known, ◌⊞◌, ◌⊟◌, ◌⊠◌}
use Rattle.double.specs.laws.Between.{between_neg}
use Rattle.quantity.specs.declared.Rad.{Rad}
use Rattle.quantity.specs.declared.EqPoint.{EqPoint}
use Rattle.quantity.specs.declared.GeographPoint.{GeographPoint}
use Rattle.quantity.specs.rules.Answer.{Answer, answered, refused, Pair, first, second, then}
use Rattle.quantity.specs.rules.Refusal.{lower, angle_refusal, latitude_refusal}
use Rattle.quantity.specs.rules.Angle.{rad}
use Rattle.quantity.specs.laws.Steps.{refused_not_answered}
use Rattle.elementary.specs.declared.Folded.{Folded}
use Rattle.elementary.specs.rules.Fold.{fold}
use Rattle.elementary.specs.rules.Sine.{folded_sine, sine_of, cosine_of, farthest_alone}
use Rattle.elementary_arc.specs.rules.Arctangent.{arctangent_of, both_zero, arctangent_in}
use Rattle.quantity.specs.laws.Accepted.{lower_none}
use Rattle.helpers_earth.specs.rules.Earth.{rho_in}
use Rattle.coords.specs.rules.HourAngle.{hr_angl_frm_observer_long}
use Rattle.parallax.specs.declared.Centre.{Centre}
use Rattle.parallax.specs.rules.Observer.{centre_of, observer_refusal}
use Rattle.parallax.specs.rules.Equatorial.{eastward, ahead, topocent_dec, topocent_from, topocent_at, topocent_in, topocent_refusal, topocent_eq_coords_rule}
use Rattle.domain_accepted.specs.laws.Accepted.{angle_between, angle_sine, latitude_sine, latitude_cosine}
use Rattle.domain_accepted.specs.notions.Outcome.{Outcome, Fourteen}
use Rattle.domain_accepted.specs.notions.Within.{Within, PointFinite}
use Rattle.domain_accepted.specs.laws.Outcome.{outcome_answered, outcome_then, rule_answers, rule_refuses}
use Rattle.domain_accepted.specs.laws.Near.{within, near_far, near_sine, near_cosine}
use Rattle.domain.specs.laws.Elementary.{fourteen_of_zeros, fourteen_accepted}
use Rattle.domain.specs.laws.Earth.{rho_outcome}
use Rattle.domain.specs.laws.Observer.{observer_accepted, arctangent_near}

-- ---- from ρ sin φ' and ρ cos φ', the parallax p, the hour angle h, and the declination d

module _ (rs rc : Float) (p h d : Rad) (asc : Rad) (RS : Within 2 rs) (RC : Within 2 rc) (P : angle_refusal p ≡ 0) (H : Within 2048 h.0) (D : latitude_refusal d ≡ 0) (A : angle_refusal asc ≡ 0) where
  abbrev x : Float
  x = cosine_of d ⊖ rc ⊗ sine_of p ⊗ cosine_of h

  x_within : Within 1024 x
  unfolding is_finite le neg add sub mul of_bits round
  x_within = within 1024 (known (latitude_cosine d D) ⊟ known RC ⊠ known (angle_sine p P) ⊠ known (near_cosine h H)) tt

  y_within : Within 1024 (neg rc ⊗ sine_of p ⊗ sine_of h)
  unfolding is_finite le neg mul of_bits round
  y_within = within 1024 (known (between_neg RC) ⊠ known (angle_sine p P) ⊠ known (near_sine h H)) tt

  from_outcome : (change : Rad) → Within 2048 change.0
      → Outcome PointFinite Fourteen (topocent_from (centre_of rs rc p) (fold d) asc change x)
  unfolding topocent_from topocent_dec centre_of is_finite le neg add sub mul of_bits round
  from_outcome change C =
      let y = (sine_of d ⊖ rs ⊗ sine_of p) ⊗ cosine_of change in
      outcome_then (λ (dec : Rad). answered (record { asc = asc.0 ⊕ change.0; dec = dec.0 }))
      (λ dec i. outcome_answered (record { asc = asc.0 ⊕ change.0; dec = dec.0 }) ((within 4096 (known (angle_between asc A) ⊞ known C) tt).finite, i.finite))
      (arctangent_in y x)
      (arctangent_near refl y x (within 1024 ((known (latitude_sine d D) ⊟ known RS ⊠ known (angle_sine p P)) ⊠ known (near_cosine change C)) tt) x_within)

  -- the change of right ascension goes into a cosine
  pub change_far : (change : Rad)
      → arctangent_in (eastward (centre_of rs rc p) (fold h)) (ahead (centre_of rs rc p) (fold h) (fold d)) ≡ answered change
      → size change.0 ≼ farthest_alone
  unfolding eastward ahead centre_of
  change_far change e =
      near_far change.0
      ((arctangent_near {Q = Fourteen} refl (neg rc ⊗ sine_of p ⊗ sine_of h) x y_within x_within).answers change e)

  at_outcome : Outcome PointFinite Fourteen (topocent_at (centre_of rs rc p) (fold h) (fold d) asc)
  unfolding topocent_at eastward ahead centre_of
  at_outcome =
      let y = neg rc ⊗ sine_of p ⊗ sine_of h in
      outcome_then (λ (change : Rad). topocent_from (centre_of rs rc p) (fold d) asc change x) from_outcome
      (arctangent_in y x) (arctangent_near refl y x y_within x_within)

-- ---- the two arctangents: the change of right ascension, and the declination; the second argument is the same

module _ (c : Centre) (h d : Folded) where
  abbrev change : Rad
  change = arctangent_of (eastward c h) (ahead c h d)

  -- the first argument of the declination's
  abbrev northward : Float
  northward = (folded_sine d ⊖ c.rho_sin ⊗ c.parallax) ⊗ cosine_of change

  at_fourteen : (asc : Rad)
      → topocent_at c h d asc ≡ refused 14 ↔ T (both_zero (eastward c h) (ahead c h d) || both_zero northward (ahead c h d))
  unfolding topocent_at topocent_from topocent_dec arctangent_in then
  at_fourteen asc = by_case (both_zero (eastward c h) (ahead c h d))
    where
      by_case : (b : Bool)
          → then (cond b (refused 14) (answered change)) (λ (v : Rad). topocent_from c d asc v (ahead c h d)) ≡ refused 14
          ↔ T (b || both_zero northward (ahead c h d))
      by_case true = (λ e. tt, λ t. refl)
      by_case false =
          fourteen_of_zeros northward (ahead c h d)
          (λ (a : Answer Rad). then a (λ (dec : Rad). answered (record { asc = asc.0 ⊕ change.0; dec = dec.0 }))) refl
          (λ v e. refused_not_answered (sym e))

-- ---- the function

module _ (q : EqPoint) (parallax : Rad) (place : GeographPoint) (height : Float) (sidereal : Rad) where
  abbrev asc : Rad
  asc = rad q.asc

  abbrev dec : Rad
  dec = rad q.dec

  abbrev hour : Rad
  hour = hr_angl_frm_observer_long sidereal (rad place.long) asc

  module _ (none : topocent_refusal q parallax place height sidereal ≡ 0) where
    apart : (lower (angle_refusal asc) (latitude_refusal dec) ≡ 0) × (observer_refusal parallax place height sidereal ≡ 0)
    apart = lower_none (lower (angle_refusal asc) (latitude_refusal dec)) (observer_refusal parallax place height sidereal) none

    hour_within : Within 2048 hour.0
    unfolding is_finite le neg add sub of_bits round
    hour_within =
        let o = observer_accepted parallax place height sidereal apart.1 in
        let m = lower_none (angle_refusal asc) (latitude_refusal dec) apart.0 in
        within 2048 ((known (angle_between sidereal o.1) ⊟ known (angle_between (rad place.long) o.2)) ⊟ known (angle_between asc m.0)) tt

    -- the hour angle goes into a sine
    pub hour_angle_far : size hour.0 ≼ farthest_alone
    hour_angle_far = near_far hour.0 hour_within

    eq_outcome : Outcome PointFinite Fourteen (topocent_in q parallax place height sidereal)
    unfolding topocent_in
    eq_outcome =
        let o = observer_accepted parallax place height sidereal apart.1 in
        let m = lower_none (angle_refusal asc) (latitude_refusal dec) apart.0 in
        outcome_then (λ (rho : Pair). topocent_at (centre_of (first rho) (second rho) parallax) (fold hour) (fold dec) asc)
        (λ rho R. at_outcome (first rho) (second rho) parallax hour dec asc R.0 R.1 o.0 hour_within m.1 m.0)
        (rho_in (rad place.lat) height) (rho_outcome (rad place.lat) height o.3 o.4)

  pub topocent_eq_coords_finite : (v : EqPoint) → topocent_eq_coords_rule q parallax place height sidereal ≡ answered v → PointFinite v
  topocent_eq_coords_finite =
      rule_answers (topocent_refusal q parallax place height sidereal) (topocent_in q parallax place height sidereal)
      eq_outcome

  pub topocent_eq_coords_refuses : topocent_refusal q parallax place height sidereal ≡ 0 → (n : ℕ)
      → topocent_eq_coords_rule q parallax place height sidereal ≡ refused n → n ≡ 14
  topocent_eq_coords_refuses =
      rule_refuses (topocent_refusal q parallax place height sidereal) (topocent_in q parallax place height sidereal)
      eq_outcome

  -- from ρ sin φ' and ρ cos φ', which are always answered
  pub topocent_eq_coords_fourteen : (rho : Pair) → rho_in (rad place.lat) height ≡ answered rho
      → topocent_refusal q parallax place height sidereal ≡ 0
      → let c = centre_of (first rho) (second rho) parallax in
      let h = fold hour in
      let d = fold dec in
      topocent_eq_coords_rule q parallax place height sidereal ≡ refused 14
      ↔ T (both_zero (eastward c h) (ahead c h d) || both_zero (northward c h d) (ahead c h d))
  unfolding topocent_in then
  topocent_eq_coords_fourteen rho r =
      let c = centre_of (first rho) (second rho) parallax in
      fourteen_accepted (topocent_refusal q parallax place height sidereal) (topocent_in q parallax place height sidereal)
      (rw r (at_fourteen c (fold hour) (fold dec) asc))

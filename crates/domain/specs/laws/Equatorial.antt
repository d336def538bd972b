-- Precession of equatorial coordinates, by either function, on arguments that are not refused: each angle that is worked out stays
-- far below 400000.0, each answer is finite, and the work meets 14 and 7 only: 14 exactly where both arguments of the arctangent are
-- zero, which is taken before the arcsine.
use Rattle.std.specs.Prelude.{ℕ, ◌≡◌, refl, ◌↔◌, T, Float}
use Rattle.std.proofs.Common.{inl, inr}
use Rattle.std.specs.Float.Ieee.{neg, add, sub, mul, div, le, of_bits, round}
use Rattle.double.specs.rules.Operations.{◌⊕◌, ◌⊖◌, ◌⊗◌}
use Rattle.double.specs.rules.Sign.{size, is_finite}
use Rattle.double.specs.rules.Order.{Between, ◌≼◌}
use Rattle.double.specs.notions.Range.{Expr, known, con, ◌⊞◌, ◌⊟◌, ◌⊠◌}
use Rattle.quantity.specs.declared.Rad.{Rad}
use Rattle.quantity.specs.rules.Answer.{Answer, answered, refused, Pair, pair, then, plus, both}
use Rattle.quantity.specs.rules.Refusal.{angle_refusal, latitude_refusal}
use Rattle.quantity.specs.rules.Angle.{HALF, rad}
use Rattle.quantity.specs.laws.Steps.{with_refused}
use Rattle.edition.specs.declared.Edition.{Edition}
use Rattle.edition.specs.declared.Edition.TheVariants.{Crate, Published}
use Rattle.elementary.specs.rules.Direction.{direction_of}
use Rattle.elementary.specs.rules.Sine.{sine_of, cosine_of, farthest_alone}
use Rattle.elementary_arc.specs.rules.Arctangent.{arctangent_in}
use Rattle.elementary_arc.specs.rules.Arcsine.{arcsine_in}
use Rattle.elementary_arc.specs.laws.Arcsine.{arcsine_never_meets_fourteen}
use Rattle.helpers.specs.rules.Angle.{arc, degree, radians_of}
use Rattle.helpers.specs.rules.Time.{century_of}
use Rattle.precess_angles.specs.declared.EqAngles.{EqAngles}
use Rattle.precess_angles.specs.declared.EqPrecession.{EqPrecession}
use Rattle.precess_angles.specs.rules.Numbers.{n2306·2181, n1·39656, n0·000139, n0·30188, n0·000344, n0·017998, n1·09468, n0·000066, n0·018203}
use Rattle.precess_angles.specs.rules.Numbers.{n0·000217, n2004·3109, n0·8533, n0·42665, n0·041833, n2304·25, n1·396, n0·302, n0·018, n0·791, n0·001}
use Rattle.precess_angles.specs.rules.Numbers.{n2004·682, n0·853, n0·426, n0·042}
use Rattle.precess_angles.specs.rules.Days.{span_of, days_refusal, place_refusal}
use Rattle.precess_angles.specs.rules.Equatorial.{eq_xi, eq_zeta, eq_theta, eq_angles_of, precession_by, eq_precession_of}
use Rattle.precess_angles.specs.rules.Fk4.{fk4_century, fk4_span, fk4_xi, fk4_zeta, fk4_theta, degrees_as_radians, fk4_angle, fk4_angles_of, fk4_precession_of}
use Rattle.precess.specs.rules.Equatorial.{arcs_of, precessed_from, precessed_in, precess_eq_coords_rule, precess_eq_coords_FK5_rule}
use Rattle.domain_accepted.specs.laws.Accepted.{angle_between, latitude_sine, latitude_cosine}
use Rattle.domain_accepted.specs.notions.Outcome.{Outcome, SevenOrFourteen}
use Rattle.domain_accepted.specs.notions.Within.{Within, IsPlace, BothFinite}
use Rattle.domain.specs.notions.Precession.{EqAnglesNear, EqPrecessionNear, up_of, across_of, no_direction}
use Rattle.domain_accepted.specs.laws.Outcome.{outcome_with, outcome_both, rule_answers, rule_refuses}
use Rattle.domain_accepted.specs.laws.Elementary.{arctangent_outcome, arcsine_outcome}
use Rattle.domain_accepted.specs.laws.Near.{within, near_far, near_sine, near_cosine}
use Rattle.domain.specs.laws.Elementary.{fourteen_of_zeros, fourteen_accepted}
use Rattle.domain.specs.laws.Days.{century_within, span_within, fk4_century_within, fk4_span_within, first_accepted, place_accepted}

-- ---- the angles that two days fix

module _ (c t : Float) (C : Within 20 c) (S : Within 41 t) where
  abbrev shared_expr : Expr
  shared_expr = known S ⊠ (con (arc n2306·2181) ⊞ known C ⊠ (con (arc n1·39656) ⊟ known C ⊠ con (arc n0·000139)))

  xi_within : Within 1024 (radians_of (eq_xi c t)).0
  unfolding eq_xi is_finite le neg add sub mul div of_bits round
  xi_within =
      within 1024
      ((shared_expr ⊞ known S ⊠ known S ⊠ ((con (arc n0·30188) ⊟ known C ⊠ con (arc n0·000344)) ⊞ known S ⊠ con (arc n0·017998))) ⊠ con degree) tt

  -- by what the editions have otherwise
  abbrev zeta_expr : Expr → Expr
  zeta_expr z = (shared_expr ⊞ known S ⊠ known S ⊠ (z ⊞ known S ⊠ con (arc n0·018203))) ⊠ con degree

  zeta_within : (e : Edition) → Within 32 (radians_of (eq_zeta e c t)).0
  unfolding eq_zeta is_finite le neg add sub mul div of_bits round
  zeta_within Crate = within 32 (zeta_expr (con (arc n1·09468) ⊟ known C ⊠ con (arc n0·000066))) tt
  zeta_within Published = within 32 (zeta_expr (con (arc n1·09468) ⊞ known C ⊠ con (arc n0·000066))) tt

  abbrev theta_expr : Float → Expr
  theta_expr x =
      let y = known C ⊠ con (arc n0·000217) in
      known S ⊠ (con (arc n2004·3109) ⊞ known C ⊠ (con x ⊟ y) ⊟ known S ⊠ ((con (arc n0·42665) ⊞ y) ⊞ known S ⊠ con (arc n0·041833))) ⊠ con degree

  theta_within : (e : Edition) → Within 2048 (radians_of (eq_theta e c t)).0
  unfolding eq_theta is_finite le neg add sub mul div of_bits round
  theta_within Crate = within 2048 (theta_expr (arc n0·8533)) tt
  theta_within Published = within 2048 (theta_expr (neg (arc n0·8533))) tt

module _ (c t : Float) (C : Within 41 c) (S : Within 41 t) where
  fk4_xi_within : Within 30 (fk4_xi c t).0
  unfolding fk4_xi is_finite le neg add sub mul div of_bits round
  fk4_xi_within =
      within 30
      (known S ⊠ (con (arc n2304·25) ⊞ known C ⊠ con (arc n1·396) ⊞ known S ⊠ (con (arc n0·302) ⊞ known S ⊠ con (arc n0·018)))) tt

  fk4_zeta_within : Within 32 (fk4_zeta (fk4_xi c t) t).0
  unfolding fk4_zeta is_finite le neg add sub mul div of_bits round
  fk4_zeta_within =
      within 32 (known fk4_xi_within ⊞ known S ⊠ known S ⊠ (con (arc n0·791) ⊞ known S ⊠ con (arc n0·001))) tt

  fk4_theta_within : Within 2048 (fk4_theta c t).0
  unfolding fk4_theta is_finite le neg add sub mul div of_bits round
  fk4_theta_within =
      within 2048
      (known S ⊠ (con (arc n2004·682) ⊟ known C ⊠ con (arc n0·853) ⊟ known S ⊠ (con (arc n0·426) ⊞ known S ⊠ con (arc n0·042)))) tt

  -- each of them, taken for radians or converted
  fk4_xi_near : (e : Edition) → Within 1024 (fk4_angle e (fk4_xi c t)).0
  unfolding fk4_angle degrees_as_radians is_finite le neg mul of_bits round
  fk4_xi_near Crate = within 1024 (known fk4_xi_within) tt
  fk4_xi_near Published = within 1024 (known fk4_xi_within ⊠ con degree) tt

  fk4_zeta_near : (e : Edition) → Within 32 (fk4_angle e (fk4_zeta (fk4_xi c t) t)).0
  unfolding fk4_angle degrees_as_radians is_finite le neg mul of_bits round
  fk4_zeta_near Crate = fk4_zeta_within
  fk4_zeta_near Published = within 32 (known fk4_zeta_within ⊠ con degree) tt

  fk4_theta_near : (e : Edition) → Within 2048 (fk4_angle e (fk4_theta c t)).0
  unfolding fk4_angle degrees_as_radians is_finite le neg mul of_bits round
  fk4_theta_near Crate = fk4_theta_within
  fk4_theta_near Published = within 2048 (known fk4_theta_within ⊠ con degree) tt

precession_near : (a : EqAngles) → EqAnglesNear a → EqPrecessionNear (precession_by a)
unfolding precession_by
precession_near a N = record { xi = N.xi; zeta = N.zeta; sine = near_sine a.theta N.theta; cosine = near_cosine a.theta N.theta }

module _ (e : Edition) (day1 day2 : Float) (none : days_refusal day1 day2 ≡ 0) where
  century : Within 20 (century_of day1)
  century = century_within day1 (first_accepted day1 day2 none)

  span : Within 41 (span_of day1 day2)
  span = span_within day1 day2 none

  fk4_century_lem : Within 41 (fk4_century day1)
  fk4_century_lem = fk4_century_within day1 (first_accepted day1 day2 none)

  fk4_span_lem : Within 41 (fk4_span day1 day2)
  fk4_span_lem = fk4_span_within day1 day2 none

  pub eq_angles_near : EqAnglesNear (eq_angles_of e day1 day2)
  unfolding eq_angles_of
  eq_angles_near =
      let c = century_of day1 in
      let t = span_of day1 day2 in
      record { xi = xi_within c t century span; zeta = zeta_within c t century span e; theta = theta_within c t century span e }

  pub eq_precession_near : EqPrecessionNear (eq_precession_of e day1 day2)
  unfolding eq_precession_of
  eq_precession_near = precession_near (eq_angles_of e day1 day2) eq_angles_near

  pub fk4_precession_near : EqPrecessionNear (fk4_precession_of e day1 day2)
  unfolding fk4_precession_of fk4_angles_of
  fk4_precession_near =
      let c = fk4_century day1 in
      let t = fk4_span day1 day2 in
      precession_near (fk4_angles_of e day1 day2)
      (record {
        xi = fk4_xi_near c t fk4_century_lem fk4_span_lem e;
        zeta = fk4_zeta_near c t fk4_century_lem fk4_span_lem e;
        theta = fk4_theta_near c t fk4_century_lem fk4_span_lem e;
      })

  -- the third angle goes into a sine
  pub theta_far : size (radians_of (eq_theta e (century_of day1) (span_of day1 day2))).0 ≼ farthest_alone
  theta_far =
      near_far (radians_of (eq_theta e (century_of day1) (span_of day1 day2))).0
      (theta_within (century_of day1) (span_of day1 day2) century span e)

  pub fk4_theta_far : size (fk4_angle e (fk4_theta (fk4_century day1) (fk4_span day1 day2))).0 ≼ farthest_alone
  fk4_theta_far =
      near_far (fk4_angle e (fk4_theta (fk4_century day1) (fk4_span day1 day2))).0
      (fk4_theta_near (fk4_century day1) (fk4_span day1 day2) fk4_century_lem fk4_span_lem e)

-- ---- a place after precession

module _ (asc dec : Rad) (precession : EqPrecession) (A : angle_refusal asc ≡ 0) (D : latitude_refusal dec ≡ 0) (N : EqPrecessionNear precession) where
  -- the right ascension with xi added goes into a sine
  argument_within : Within 2048 (asc.0 ⊕ precession.xi.0)
  unfolding is_finite le neg add of_bits round
  argument_within = within 2048 (known (angle_between asc A) ⊞ known N.xi) tt

  pub precessed_far : size (asc.0 ⊕ precession.xi.0) ≼ farthest_alone
  precessed_far = near_far (asc.0 ⊕ precession.xi.0) argument_within

  pub precessed_outcome : Outcome IsPlace SevenOrFourteen (precessed_in asc dec precession)
  unfolding precessed_in direction_of precessed_from arcs_of plus is_finite le neg add sub mul of_bits round
  precessed_outcome =
      let a = rad (asc.0 ⊕ precession.xi.0) in
      let sa = known (near_sine a argument_within) in
      let ca = known (near_cosine a argument_within) in
      let sd = known (latitude_sine dec D) in
      let cd = known (latitude_cosine dec D) in
      let y = up_of asc dec precession in
      let x = across_of asc dec precession in
      let s = precession.sine ⊗ cosine_of dec ⊗ cosine_of a ⊕ precession.cosine ⊗ sine_of dec in
      outcome_both (Within 64) (Between (neg HALF) HALF) (plus (arctangent_in y x) precession.zeta) (arcsine_in s)
      (outcome_with (λ (v : Rad). rad (v.0 ⊕ precession.zeta.0)) (λ v i. within 64 (known i ⊞ known N.zeta) tt) (arctangent_in y x)
      (arctangent_outcome (inr refl) y x (within 2 (cd ⊠ sa) tt).finite (within 4 (known N.cosine ⊠ cd ⊠ ca ⊟ known N.sine ⊠ sd) tt).finite))
      (arcsine_outcome (inl refl) s (within 4 (known N.sine ⊠ cd ⊠ ca ⊞ known N.cosine ⊠ sd) tt).finite)

precessed_fourteen : (asc dec : Rad) (precession : EqPrecession) → precessed_in asc dec precession ≡ refused 14 ↔ T (no_direction asc dec precession)
unfolding precessed_in direction_of precessed_from arcs_of plus both then
precessed_fourteen asc dec precession =
    let s = precession.sine ⊗ cosine_of dec ⊗ cosine_of (rad (asc.0 ⊕ precession.xi.0)) ⊕ precession.cosine ⊗ sine_of dec in
    fourteen_of_zeros (up_of asc dec precession) (across_of asc dec precession) (λ (a : Answer Rad). both (plus a precession.zeta) (arcsine_in s)) refl
    (λ v e.
    arcsine_never_meets_fourteen s
    (with_refused (arcsine_in s) (λ (y : Rad). pair (v.0 ⊕ precession.zeta.0) y.0) 14 e))

-- ---- the two functions

module _ (edition : Edition) (asc dec : Rad) (day1 day2 : Float) where
  eq_outcome : place_refusal asc dec day1 day2 ≡ 0 → Outcome IsPlace SevenOrFourteen (precessed_in asc dec (eq_precession_of edition day1 day2))
  eq_outcome e =
      let n = place_accepted asc dec day1 day2 e in
      precessed_outcome asc dec (eq_precession_of edition day1 day2) n.0 n.1 (eq_precession_near edition day1 day2 n.2)

  fk4_outcome : place_refusal asc dec day1 day2 ≡ 0 → Outcome IsPlace SevenOrFourteen (precessed_in asc dec (fk4_precession_of edition day1 day2))
  fk4_outcome e =
      let n = place_accepted asc dec day1 day2 e in
      precessed_outcome asc dec (fk4_precession_of edition day1 day2) n.0 n.1 (fk4_precession_near edition day1 day2 n.2)

  pub precess_eq_coords_answers : (p : Pair) → precess_eq_coords_rule edition asc dec day1 day2 ≡ answered p → IsPlace p
  precess_eq_coords_answers = rule_answers (place_refusal asc dec day1 day2) (precessed_in asc dec (eq_precession_of edition day1 day2)) eq_outcome

  pub precess_eq_coords_finite : (p : Pair) → precess_eq_coords_rule edition asc dec day1 day2 ≡ answered p → BothFinite p
  precess_eq_coords_finite p e =
      let i = precess_eq_coords_answers p e in
      (i.0.finite, i.1.finite)

  pub precess_eq_coords_refuses : place_refusal asc dec day1 day2 ≡ 0 → (n : ℕ) → precess_eq_coords_rule edition asc dec day1 day2 ≡ refused n → SevenOrFourteen n
  precess_eq_coords_refuses = rule_refuses (place_refusal asc dec day1 day2) (precessed_in asc dec (eq_precession_of edition day1 day2)) eq_outcome

  pub precess_eq_coords_fourteen : place_refusal asc dec day1 day2 ≡ 0
      → precess_eq_coords_rule edition asc dec day1 day2 ≡ refused 14 ↔ T (no_direction asc dec (eq_precession_of edition day1 day2))
  precess_eq_coords_fourteen =
      let precession = eq_precession_of edition day1 day2 in
      fourteen_accepted (place_refusal asc dec day1 day2) (precessed_in asc dec precession) (precessed_fourteen asc dec precession)

  pub precess_eq_coords_fk5_answers : (p : Pair) → precess_eq_coords_FK5_rule edition asc dec day1 day2 ≡ answered p → IsPlace p
  precess_eq_coords_fk5_answers = rule_answers (place_refusal asc dec day1 day2) (precessed_in asc dec (fk4_precession_of edition day1 day2)) fk4_outcome

  pub precess_eq_coords_fk5_finite : (p : Pair) → precess_eq_coords_FK5_rule edition asc dec day1 day2 ≡ answered p → BothFinite p
  precess_eq_coords_fk5_finite p e =
      let i = precess_eq_coords_fk5_answers p e in
      (i.0.finite, i.1.finite)

  pub precess_eq_coords_fk5_refuses : place_refusal asc dec day1 day2 ≡ 0 → (n : ℕ)
      → precess_eq_coords_FK5_rule edition asc dec day1 day2 ≡ refused n → SevenOrFourteen n
  precess_eq_coords_fk5_refuses = rule_refuses (place_refusal asc dec day1 day2) (precessed_in asc dec (fk4_precession_of edition day1 day2)) fk4_outcome

  pub precess_eq_coords_fk5_fourteen : place_refusal asc dec day1 day2 ≡ 0
      → precess_eq_coords_FK5_rule edition asc dec day1 day2 ≡ refused 14 ↔ T (no_direction asc dec (fk4_precession_of edition day1 day2))
  precess_eq_coords_fk5_fourteen =
      let precession = fk4_precession_of edition day1 day2 in
      fourteen_accepted (place_refusal asc dec day1 day2) (precessed_in asc dec precession) (precessed_fourteen asc dec precession)

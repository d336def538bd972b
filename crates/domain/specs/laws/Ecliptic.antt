-- Precession of ecliptic coordinates on arguments that are not refused: each angle that is worked out stays far below 400000.0, each
-- answer is finite, and 7 is the only refusal that the work meets.
use Rattle.std.specs.Prelude.{ℕ, ◌≡◌, Float}
use Rattle.std.proofs.Math.Path.{refl}
use Rattle.std.specs.Float.Ieee.{neg, add, sub, mul, div, le, of_bits, round}
use Rattle.double.specs.rules.Operations.{◌⊕◌, ◌⊖◌, ◌⊗◌}
use Rattle.double.specs.rules.Sign.{size, is_finite}
use Rattle.double.specs.rules.Order.{Between, NonZero, ◌≼◌}
use Rattle.double.specs.rules.Table.{over}
use Rattle.double.specs.laws.Between.{between→size}
use Rattle.double.specs.notions.Range.{known, con, ◌⊞◌, ◌⊟◌, ◌⊠◌}
use Rattle.quantity.specs.declared.Rad.{Rad}
use Rattle.quantity.specs.rules.Answer.{answered, refused, Pair, taken_from}
use Rattle.quantity.specs.rules.Refusal.{angle_refusal, latitude_refusal}
use Rattle.quantity.specs.rules.Angle.{HALF, rad}
use Rattle.elementary.specs.rules.Sine.{sine_of, cosine_of, farthest_alone}
use Rattle.elementary_arc.specs.rules.Arctangent.{arctangent_in}
use Rattle.elementary_arc.specs.rules.Arcsine.{arcsine_in}
use Rattle.helpers.specs.rules.Angle.{arc, degree, radians_of}
use Rattle.helpers.specs.rules.Time.{century_of}
use Rattle.precess_ecl.specs.declared.EclPrecession.{EclPrecession}
use Rattle.precess_ecl.specs.rules.Numbers.{n0·000598, n47·0029, n0·06603, m0·03302, n0·00006, n174·876384, n3289·4789, n0·60622, n869·8089, n0·50491}
use Rattle.precess_ecl.specs.rules.Numbers.{n0·03536, n0·000042, n5029·0966, n2·22226, n1·11113, n0·000006}
use Rattle.precess_angles.specs.rules.Days.{span_of, days_refusal, place_refusal}
use Rattle.precess_ecl.specs.rules.Ecliptic.{ecl_nu, ecl_pi, ecl_rho, ecl_precession_by, ecl_precession_of, ecl_precessed_from, ecl_precessed_in, precess_ecl_coords_rule}
use Rattle.domain_accepted.specs.laws.Accepted.{angle_between, latitude_sine, latitude_cosine}
use Rattle.domain_accepted.specs.notions.Outcome.{Outcome, Seven}
use Rattle.domain_accepted.specs.notions.Within.{Within, IsPlace, BothFinite}
use Rattle.domain.specs.notions.Precession.{EclPrecessionNear}
use Rattle.domain_accepted.specs.laws.Outcome.{outcome_with, outcome_both, rule_answers, rule_refuses}
use Rattle.domain_accepted.specs.laws.Elementary.{arctangent_outcome_of, second_not_zero, arcsine_outcome}
use Rattle.domain_accepted.specs.laws.Cosine.{cosine_away, latitude_away, product_not_zero}
use Rattle.domain_accepted.specs.laws.Near.{within, near_far, near_sine, near_cosine}
use Rattle.domain.specs.laws.Days.{century_within, span_within, first_accepted, place_accepted}

-- ---- the angles that two days fix

module _ (c t : Float) (C : Within 20 c) (S : Within 41 t) where
  nu_within : Within 1024 (radians_of (ecl_nu c t)).0
  unfolding ecl_nu is_finite le neg add sub mul div of_bits round
  nu_within =
      let x = known C ⊠ con (arc n0·000598) in
      within 1024
      (known S ⊠ (con (arc n47·0029) ⊟ known C ⊠ (con (arc n0·06603) ⊟ x) ⊞ known S ⊠ ((con (arc m0·03302) ⊞ x) ⊞ known S ⊠ con (arc n0·00006))) ⊠ con degree) tt

  pi_within : Within 16 (radians_of (ecl_pi c t)).0
  unfolding ecl_pi is_finite le neg add sub mul div of_bits round
  pi_within =
      within 16
      ((con n174·876384 ⊞ known C ⊠ (con (arc n3289·4789) ⊞ known C ⊠ con (arc n0·60622)) ⊟ known S ⊠ ((con (arc n869·8089) ⊞ known C ⊠ con (arc n0·50491)) ⊟ known S ⊠ con (arc n0·03536))) ⊠ con degree) tt

  rho_within : Within 16 (radians_of (ecl_rho c t)).0
  unfolding ecl_rho is_finite le neg add sub mul div of_bits round
  rho_within =
      let y = known C ⊠ con (arc n0·000042) in
      within 16
      (known S ⊠ (con (arc n5029·0966) ⊞ known C ⊠ (con (arc n2·22226) ⊟ y) ⊞ known S ⊠ ((con (arc n1·11113) ⊟ y) ⊟ known S ⊠ con (arc n0·000006))) ⊠ con degree) tt

precession_near : (nu pi rho : Rad) → Within 1024 nu.0 → Within 16 pi.0 → Within 16 rho.0 → EclPrecessionNear (ecl_precession_by nu pi rho)
unfolding ecl_precession_by is_finite le neg round
precession_near nu pi rho N P R =
    let n = within 2048 (known N) tt in
    record { nu = N; sine = near_sine nu n; cosine = near_cosine nu n; pi = P; rho = R }

module _ (day1 day2 : Float) (none : days_refusal day1 day2 ≡ 0) where
  pub ecl_precession_near : EclPrecessionNear (ecl_precession_of day1 day2)
  unfolding ecl_precession_of
  ecl_precession_near =
      let c = century_of day1 in
      let t = span_of day1 day2 in
      let C = century_within day1 (first_accepted day1 day2 none) in
      let S = span_within day1 day2 none in
      precession_near (radians_of (ecl_nu c t)) (radians_of (ecl_pi c t)) (radians_of (ecl_rho c t)) (nu_within c t C S)
      (pi_within c t C S) (rho_within c t C S)

  -- the first angle goes into a sine
  pub nu_far : size (ecl_precession_of day1 day2).nu.0 ≼ farthest_alone
  unfolding is_finite le neg round
  nu_far = near_far (ecl_precession_of day1 day2).nu.0 (within 2048 (known ecl_precession_near.nu) tt)

-- ---- a place after precession

module _ (long lat : Rad) (precession : EclPrecession) (L : angle_refusal long ≡ 0) (B : latitude_refusal lat ≡ 0) (N : EclPrecessionNear precession) where
  -- Pi less the longitude goes into a sine
  argument_within : Within 2048 (precession.pi.0 ⊖ long.0)
  unfolding is_finite le neg add sub of_bits round
  argument_within = within 2048 (known N.pi ⊟ known (angle_between long L)) tt

  pub ecl_precessed_far : size (precession.pi.0 ⊖ long.0) ≼ farthest_alone
  ecl_precessed_far = near_far (precession.pi.0 ⊖ long.0) argument_within

  -- the arctangent's second argument is a product of two cosines, so that 14 is never met
  second_some : NonZero (cosine_of lat ⊗ cosine_of (rad (precession.pi.0 ⊖ long.0)))
  unfolding is_finite le neg add sub of_bits round
  second_some =
      let p = precession.pi.0 ⊖ long.0 in
      product_not_zero (cosine_of lat) (cosine_of (rad p)) (latitude_away lat B)
      (cosine_away (rad p) (between→size (over 80 1) p (within 80 (known N.pi ⊟ known (angle_between long L)) tt)))

  ecl_precessed_outcome : Outcome IsPlace Seven (ecl_precessed_in long lat precession)
  unfolding ecl_precessed_in ecl_precessed_from taken_from is_finite le neg add sub mul of_bits round
  ecl_precessed_outcome =
      let p = rad (precession.pi.0 ⊖ long.0) in
      let sp = known (near_sine p argument_within) in
      let cp = known (near_cosine p argument_within) in
      let sb = known (latitude_sine lat B) in
      let cb = known (latitude_cosine lat B) in
      let y = precession.cosine ⊗ cosine_of lat ⊗ sine_of p ⊖ precession.sine ⊗ sine_of lat in
      let x = cosine_of lat ⊗ cosine_of p in
      let s = precession.cosine ⊗ sine_of lat ⊕ precession.sine ⊗ cosine_of lat ⊗ sine_of p in
      let z = rad (precession.rho.0 ⊕ precession.pi.0) in
      outcome_both (Within 64) (Between (neg HALF) HALF) (taken_from z (arctangent_in y x)) (arcsine_in s)
      (outcome_with (λ (v : Rad). rad (z.0 ⊖ v.0)) (λ v i. within 64 ((known N.rho ⊞ known N.pi) ⊟ known i) tt) (arctangent_in y x)
      (arctangent_outcome_of y x (within 4 (known N.cosine ⊠ cb ⊠ sp ⊟ known N.sine ⊠ sb) tt).finite (within 2 (cb ⊠ cp) tt).finite
      (second_not_zero y x second_some)))
      (arcsine_outcome refl s (within 4 (known N.cosine ⊠ sb ⊞ known N.sine ⊠ cb ⊠ sp) tt).finite)

-- ---- the function

module _ (long lat : Rad) (day1 day2 : Float) where
  ecl_outcome : place_refusal long lat day1 day2 ≡ 0 → Outcome IsPlace Seven (ecl_precessed_in long lat (ecl_precession_of day1 day2))
  ecl_outcome e =
      let n = place_accepted long lat day1 day2 e in
      ecl_precessed_outcome long lat (ecl_precession_of day1 day2) n.0 n.1 (ecl_precession_near day1 day2 n.2)

  pub precess_ecl_coords_answers : (p : Pair) → precess_ecl_coords_rule long lat day1 day2 ≡ answered p → IsPlace p
  precess_ecl_coords_answers = rule_answers (place_refusal long lat day1 day2) (ecl_precessed_in long lat (ecl_precession_of day1 day2)) ecl_outcome

  pub precess_ecl_coords_finite : (p : Pair) → precess_ecl_coords_rule long lat day1 day2 ≡ answered p → BothFinite p
  precess_ecl_coords_finite p e =
      let i = precess_ecl_coords_answers p e in
      (i.0.finite, i.1.finite)

  pub precess_ecl_coords_refuses : place_refusal long lat day1 day2 ≡ 0 → (n : ℕ)
      → precess_ecl_coords_rule long lat day1 day2 ≡ refused n → n ≡ 7
  precess_ecl_coords_refuses = rule_refuses (place_refusal long lat day1 day2) (ecl_precessed_in long lat (ecl_precession_of day1 day2)) ecl_outcome

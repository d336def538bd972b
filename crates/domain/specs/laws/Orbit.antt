-- Precession of orbital elements on arguments that are not refused: each angle that is worked out stays far below 400000.0, each
-- answer is finite, and the work meets 6 and 7 only: 6 where the node's arctangent would meet 14.
use Rattle.std.specs.Prelude.{ℕ, ◌≡◌, refl, not, Float}
use Rattle.std.proofs.Common.{sym, ◌∙◌, inl, inr, T_not}
use Rattle.std.proofs.Math.Dec.{T, not_T}
use Rattle.std.specs.Float.Ieee.{neg, add, sub, mul, eq, le, of_bits, round}
use Rattle.std.specs.Float.Ieee.Bits.{is_true, is_false}
use Rattle.std.specs.Float.Ieee.Fits.{and_l, and_r}
use Rattle.double.specs.rules.Operations.{zero, ◌⊕◌, ◌⊖◌, ◌⊗◌, ◌⊘◌}
use Rattle.double.specs.rules.Sign.{size, is_finite}
use Rattle.double.specs.rules.Order.{◌≼◌, is_zero, NonZero, Finite}
use Rattle.double.specs.notions.Range.{known, con, ◌⊞◌, ◌⊟◌, ◌⊠◌}
use Rattle.double.specs.laws.Between.{between_neg}
use Rattle.quantity.specs.declared.Rad.{Rad}
use Rattle.quantity.specs.rules.Angle.{rad, PI}
use Rattle.quantity.specs.rules.Answer.{answered, refused, Pair, first, second, Triple, triple, then, added_to}
use Rattle.quantity.specs.rules.Refusal.{lower, angle_refusal}
use Rattle.quantity.specs.laws.Steps.{same_value}
use Rattle.root.specs.rules.Root.{root_rule}
use Rattle.elementary.specs.rules.Fold.{fold}
use Rattle.elementary.specs.rules.Sine.{sine_of, cosine_of, farthest_alone}
use Rattle.elementary_arc.specs.rules.Arctangent.{both_zero, arctangent_in}
use Rattle.elementary_arc.specs.rules.Arcsine.{arcsine_in}
use Rattle.elementary_arc.specs.notions.Computed as arc
use Rattle.quantity.specs.laws.Accepted.{lower_none}
use Rattle.precess_ecl.specs.declared.EclPrecession.{EclPrecession}
use Rattle.precess_angles.specs.rules.Days.{days_refusal}
use Rattle.precess_ecl.specs.rules.Ecliptic.{ecl_precession_of}
use Rattle.precess_ecl.specs.rules.Orbit.{leaned_of, new_inclination, new_node, node_and_perihelion, orbit_from, orbit_in, orbit_refusal, precess_orb_elements_rule}
use Rattle.domain_accepted.specs.laws.Accepted.{none_of_three, angle_between, angle_sine, angle_cosine}
use Rattle.domain_accepted.specs.notions.Outcome.{Outcome, SixOrSeven}
use Rattle.domain_accepted.specs.notions.Within.{Angle, Within, AllFinite}
use Rattle.domain.specs.notions.Precession.{EclPrecessionNear}
use Rattle.domain_accepted.specs.laws.Outcome.{outcome_answered, outcome_refused, outcome_cond, outcome_wider, outcome_with_answer, outcome_with}
use Rattle.domain_accepted.specs.laws.Outcome.{outcome_then, outcome_both, rule_answers, rule_refuses}
use Rattle.domain_accepted.specs.laws.Elementary.{arctangent_outcome_of, square_of_zero, arcsine_outcome, arcsine_number_outcome, quotient_not_nan}
use Rattle.domain_accepted.specs.laws.Elementary.{root_outcome}
use Rattle.domain_accepted.specs.laws.Near.{within, near_far, near_sine, near_cosine}
use Rattle.domain.specs.laws.Ecliptic.{ecl_precession_near}

-- ---- no inclination

at_zeros : then (root_rule (zero ⊕ zero)) arcsine_in ≡ answered (rad zero)
unfolding arc.computed
at_zeros = refl

zeros_lean : (a b : Float) → T (is_zero a) → T (is_zero b) → then (root_rule (a ⊗ a ⊕ b ⊗ b)) arcsine_in ≡ answered (rad zero)
zeros_lean a b p q = rw (square_of_zero a p, square_of_zero b q) at_zeros

sine_of_zero : T (is_zero (sine_of (rad zero)))
unfolding arc.computed
sine_of_zero = tt

module _ (inc perih node : Rad) (precession : EclPrecession) (I : angle_refusal inc ≡ 0) (P : angle_refusal perih ≡ 0) (O : angle_refusal node ≡ 0) (N : EclPrecessionNear precession) where
  -- ---- the node less Pi

  abbrev from_pi : Rad
  from_pi = rad (node.0 ⊖ precession.pi.0)

  from_pi_within : Within 2048 from_pi.0
  unfolding is_finite le neg add sub of_bits round
  from_pi_within = within 2048 (known (angle_between node O) ⊟ known N.pi) tt

  pub from_pi_far : size from_pi.0 ≼ farthest_alone
  from_pi_far = near_far from_pi.0 from_pi_within

  -- ---- A and B

  abbrev A : Float
  A = sine_of inc ⊗ sine_of from_pi

  abbrev B : Float
  B = neg precession.sine ⊗ cosine_of inc ⊕ precession.cosine ⊗ sine_of inc ⊗ cosine_of from_pi

  a_within : Within 2 A
  unfolding is_finite le neg mul of_bits round
  a_within = within 2 (known (angle_sine inc I) ⊠ known (near_sine from_pi from_pi_within)) tt

  b_within : Within 2 B
  unfolding is_finite le neg add mul of_bits round
  b_within =
      within 2
      (known (between_neg N.sine) ⊠ known (angle_cosine inc I) ⊞ known N.cosine ⊠ known (angle_sine inc I) ⊠ known (near_cosine from_pi from_pi_within)) tt

  -- ---- the new inclination, which goes into a sine, and the new node

  inclination_outcome : Outcome (Angle (Within 1024)) SixOrSeven (new_inclination inc (leaned_of (fold inc) (fold from_pi) precession) precession)
  unfolding new_inclination leaned_of is_finite le neg add mul of_bits round
  inclination_outcome =
      let a = known a_within in
      let b = known b_within in
      let x = A ⊗ A ⊕ B ⊗ B in
      outcome_cond (eq inc.0 zero) (answered precession.nu) (then (root_rule x) arcsine_in) (outcome_answered precession.nu N.nu)
      (λ t.
      outcome_then {R = Angle (Within 1024)} arcsine_in (λ r F. outcome_wider (λ v i. within 1024 (known i) tt) (arcsine_outcome (inr refl) r F)) (root_rule x)
      (root_outcome A B a_within.finite b_within.finite (within 4 (a ⊠ a) tt).finite (within 4 (b ⊠ b) tt).finite (within 8 (a ⊠ a ⊞ b ⊠ b) tt).finite))

  pub inclination_far : (i : Rad) → new_inclination inc (leaned_of (fold inc) (fold from_pi) precession) precession ≡ answered i
      → size i.0 ≼ farthest_alone
  unfolding is_finite le neg round
  inclination_far i e = near_far i.0 (within 2048 (known (inclination_outcome.answers i e)) tt)

  -- where A and B are both zero, so is the new inclination, whose sine is tested first: 14 is never met
  inclination_of_zeros : T (not (eq inc.0 zero)) → T (both_zero A B)
      → new_inclination inc (leaned_of (fold inc) (fold from_pi) precession) precession ≡ answered (rad zero)
  unfolding new_inclination leaned_of
  inclination_of_zeros t z =
      rw (is_false (eq inc.0 zero) t) (zeros_lean A B (and_l (is_zero A) (is_zero B) z) (and_r (is_zero A) (is_zero B) z))

  zeros_six : T (not (eq inc.0 zero)) → T (both_zero A B) → orbit_in inc perih node precession ≡ refused 6
  unfolding orbit_in orbit_from then
  zeros_six t z = rw (inclination_of_zeros t z, is_true (is_zero (sine_of (rad zero))) sine_of_zero)

  not_both_zero : (i : Rad) → new_inclination inc (leaned_of (fold inc) (fold from_pi) precession) precession ≡ answered i → NonZero (sine_of i)
      → T (not (eq inc.0 zero)) → T (not (both_zero A B))
  not_both_zero i e some t = not_T (both_zero A B) (λ (z : T (both_zero A B)). T_not (is_zero (sine_of i)) some (at_zero z))
    where
      at_zero : T (both_zero A B) → T (is_zero (sine_of i))
      at_zero z = rw (same_value (sym e ∙ inclination_of_zeros t z)) sine_of_zero

  node_outcome : (T (not (eq inc.0 zero)) → T (not (both_zero A B)))
      → Outcome (Angle Finite) SixOrSeven (new_node inc (leaned_of (fold inc) (fold from_pi) precession) precession)
  unfolding new_node leaned_of added_to is_finite le neg add of_bits round
  node_outcome some =
      let phi = precession.pi.0 ⊕ precession.rho.0 in
      let F = known N.pi ⊞ known N.rho in
      let v = arctangent_in A B in
      outcome_cond (eq inc.0 zero) (answered (rad (phi ⊕ PI))) (added_to (rad phi) v)
      (outcome_answered (rad (phi ⊕ PI)) (within 2048 (F ⊞ con PI) tt).finite)
      (λ t.
      outcome_with (λ (x : Rad). rad (phi ⊕ x.0)) (λ x i. (within 2048 (F ⊞ known i) tt).finite) v
      (arctangent_outcome_of A B a_within.finite b_within.finite (some t)))

  -- ---- the three elements, by the sine of the new inclination, where that is not zero

  from_outcome : (i : Rad) → Within 1024 i.0 × (new_inclination inc (leaned_of (fold inc) (fold from_pi) precession) precession ≡ answered i)
      → Outcome AllFinite SixOrSeven (orbit_from i (new_node inc (leaned_of (fold inc) (fold from_pi) precession) precession) perih (fold from_pi) precession)
  unfolding orbit_from node_and_perihelion added_to is_finite le neg add mul of_bits round
  from_outcome i known-i =
      let J = known-i.0 in
      let s = sine_of i in
      let S = near_sine i (within 2048 (known J) tt) in
      let top = neg precession.sine ⊗ sine_of from_pi in
      let T = within 2 (known (between_neg N.sine) ⊠ known (near_sine from_pi from_pi_within)) tt in
      let new = new_node inc (leaned_of (fold inc) (fold from_pi) precession) precession in
      outcome_cond (eq s zero) (refused 6)
      (then (node_and_perihelion s new perih (fold from_pi) precession) (λ (p : Pair). answered (triple i.0 (second p) (first p))))
      (outcome_refused 6 (inl refl))
      (λ not_zero.
      outcome_then (λ (p : Pair). answered (triple i.0 (second p) (first p)))
      (λ p q. outcome_answered (triple i.0 (second p) (first p)) (J.finite, q.1, q.0))
      (node_and_perihelion s new perih (fold from_pi) precession)
      (outcome_both Finite Finite new (added_to perih (arcsine_in (top ⊘ s))) (node_outcome (not_both_zero i known-i.1 not_zero))
      (outcome_with (λ (x : Rad). rad (perih.0 ⊕ x.0)) (λ x j. (within 2048 (known (angle_between perih P) ⊞ known j) tt).finite) (arcsine_in (top ⊘ s))
      (arcsine_number_outcome (inr refl) (top ⊘ s) (quotient_not_nan top s T.finite S.finite not_zero)))))

  orbit_outcome : Outcome AllFinite SixOrSeven (orbit_in inc perih node precession)
  unfolding orbit_in
  orbit_outcome =
      outcome_then
      (λ (i : Rad). orbit_from i (new_node inc (leaned_of (fold inc) (fold from_pi) precession) precession) perih (fold from_pi) precession)
      from_outcome
      (new_inclination inc (leaned_of (fold inc) (fold from_pi) precession) precession) (outcome_with_answer inclination_outcome)

-- ---- the function

module _ (inc perih node : Rad) (day1 day2 : Float) where
  accepted : orbit_refusal inc perih node day1 day2 ≡ 0
      → (angle_refusal inc ≡ 0) × (angle_refusal perih ≡ 0) × (angle_refusal node ≡ 0) × EclPrecessionNear (ecl_precession_of day1 day2)
  accepted e =
      let n = lower_none (lower (angle_refusal inc) (lower (angle_refusal perih) (angle_refusal node))) (days_refusal day1 day2) e in
      let m = none_of_three (angle_refusal inc) (angle_refusal perih) (angle_refusal node) n.0 in
      (m.0, m.1, m.2, ecl_precession_near day1 day2 n.1)

  outcome : orbit_refusal inc perih node day1 day2 ≡ 0 → Outcome AllFinite SixOrSeven (orbit_in inc perih node (ecl_precession_of day1 day2))
  outcome e =
      let n = accepted e in
      orbit_outcome inc perih node (ecl_precession_of day1 day2) n.0 n.1 n.2 n.3

  pub precess_orb_elements_finite : (t : Triple) → precess_orb_elements_rule inc perih node day1 day2 ≡ answered t → AllFinite t
  precess_orb_elements_finite =
      rule_answers (orbit_refusal inc perih node day1 day2) (orbit_in inc perih node (ecl_precession_of day1 day2)) outcome

  pub precess_orb_elements_refuses : orbit_refusal inc perih node day1 day2 ≡ 0 → (n : ℕ)
      → precess_orb_elements_rule inc perih node day1 day2 ≡ refused n → SixOrSeven n
  precess_orb_elements_refuses =
      rule_refuses (orbit_refusal inc perih node day1 day2) (orbit_in inc perih node (ecl_precession_of day1 day2)) outcome

  -- 6 is tested before the node's arctangent: where both arguments of that are zero, 6 and not 14
  pub precess_orb_elements_of_zeros : orbit_refusal inc perih node day1 day2 ≡ 0 → T (not (eq inc.0 zero))
      → let precession = ecl_precession_of day1 day2 in
      let l = leaned_of (fold inc) (fold (rad (node.0 ⊖ precession.pi.0))) precession in
      T (both_zero l.a l.b) → precess_orb_elements_rule inc perih node day1 day2 ≡ refused 6
  unfolding leaned_of
  precess_orb_elements_of_zeros e t z =
      let n = accepted e in
      rw e (zeros_six inc perih node (ecl_precession_of day1 day2) n.0 n.1 n.2 n.3 t z)

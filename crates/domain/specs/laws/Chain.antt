-- The chain on arguments that are not refused: the steps at the precessed point refuse nothing but its declination, by 4, so that the
-- chain meets 14, 7 and 4 only, 14 exactly where precession does; and each answer is finite.
use Rattle.std.specs.Prelude.{ℕ, refl, ◌↔◌, ◌⊎◌, Bool, true, false, cond, T, Float, ◌≢◌}
use Rattle.std.proofs.Math.Path.{◌≡◌}
use Rattle.std.proofs.Common.{sym, ap, ◌∙◌, subst}
use Rattle.std.proofs.Math.Logic.{inl, inr}
use Rattle.std.proofs.Math.Logic.Iff
use native.Mathlib.Omega.{arith}
use Rattle.std.specs.Float.Ieee.{neg, add, sub, mul, div, le, lt, of_bits, round}
use Rattle.std.specs.Float.Ieee.Bits.{is_true}
use Rattle.double.specs.rules.Sign.{size, is_finite}
use Rattle.double.specs.rules.Order.{◌≼◌, Between}
use Rattle.double.specs.rules.Table.{over}
use Rattle.double.specs.notions.Range.{known, con, ◌⊞◌, ◌⊟◌, ◌⊠◌}
use Rattle.double.specs.laws.Order.{le_trans}
use Rattle.double.specs.laws.Between.{between→size}
use Rattle.quantity.specs.declared.Rad.{Rad}
use Rattle.quantity.specs.rules.Angle.{rad, HALF}
use Rattle.quantity.specs.rules.Answer.{Answer, answered, refused, Pair, pair, first, second, unless, then}
use Rattle.quantity.specs.rules.Refusal.{day_refusal, farthest, steepest, angle_refusal, latitude_refusal, steep_refusal}
use Rattle.quantity.specs.laws.Answer.{then_unless}
use Rattle.quantity.specs.laws.Refusal.{past_none}
use Rattle.quantity.specs.laws.Steps.{refused_not_answered, same_number}
use Rattle.edition.specs.declared.Edition.{Edition}
use Rattle.elementary.specs.rules.Sine.{farthest_alone}
use Rattle.quantity.specs.laws.Accepted.{answered_unless}
use Rattle.helpers.specs.rules.Angle.{arc, degree}
use Rattle.precess_angles.specs.rules.Days.{place_refusal}
use Rattle.precess_angles.specs.rules.Equatorial.{eq_precession_of}
use Rattle.precess.specs.rules.Equatorial.{precessed_in, precess_eq_coords_rule}
use Rattle.nutation_table.specs.rules.Day.{nutation_of}
use Rattle.nutation.specs.rules.Day.{nutation_rule}
use Rattle.nutation.specs.rules.Point.{nutation_in_refusal, nutation_in_eq_coords_in, nutation_in_eq_coords_rule}
use Rattle.aberr.specs.rules.Star.{stell_aberr_refusal, stell_aberr_in_eq_coords_in, stell_aberr_in_eq_coords_rule}
use Rattle.chain.specs.rules.Numbers.{n84381·448, n46·8150, n0·00059, n0·001813}
use Rattle.chain.specs.rules.Obliquity.{mean_obliquity, mean_obliquity_of, true_obliquity}
use Rattle.chain.specs.rules.Chain.{point, sum, from_point, chain_rule}
use Rattle.domain_accepted.specs.notions.Outcome.{Outcome, FourSevenOrFourteen}
use Rattle.domain_accepted.specs.notions.Within.{Within, IsPlace, BothFinite, BothWithin}
use Rattle.domain_accepted.specs.laws.Outcome.{outcome_answered, outcome_then}
use Rattle.domain_accepted.specs.laws.Near.{within, near_far}
use Rattle.domain.specs.notions.Precession.{no_direction}
use Rattle.domain.specs.laws.Days.{century_within, second_accepted, place_accepted}
use Rattle.domain.specs.laws.Equatorial.{precess_eq_coords_answers, precess_eq_coords_refuses, precess_eq_coords_fourteen}
use Rattle.domain.specs.laws.NutationSum.{nutation_outcome, nutation_answers, nutation_refuses}
use Rattle.domain.specs.laws.NutationPoint.{nutation_in_eq_coords_answers, nutation_in_eq_coords_refuses}
use Rattle.domain.specs.laws.StarAberration.{stell_aberr_in_eq_coords_answers, stell_aberr_in_eq_coords_refuses}

-- ---- what is not refused

pub angle_near : (x : Rad) → Within 64 x.0 → angle_refusal x ≡ 0
unfolding angle_refusal is_finite le of_bits round
angle_near x i =
    past_none x.0 farthest 3 tt (le_trans (size x.0) (over 64 1) farthest (between→size (over 64 1) x.0 i) tt)

latitude_near : (x : Rad) → Between (neg HALF) HALF x.0 → latitude_refusal x ≡ 0
unfolding latitude_refusal is_finite of_bits
latitude_near x i = past_none x.0 HALF 3 tt (between→size HALF x.0 i)

-- a latitude is refused by 4 or not
steep_cases : (x : Rad) → Between (neg HALF) HALF x.0 → (steep_refusal x ≡ 0) ⊎ (steep_refusal x ≡ 4)
unfolding steep_refusal
steep_cases x i =
    rw (latitude_near x i, is_true (is_finite x.0) i.finite) (by_case (lt steepest (size x.0)))
  where
    by_case : (b : Bool) → (◌≡◌ {A = ℕ} (cond b 4 0) 0) ⊎ (◌≡◌ {A = ℕ} (cond b 4 0) 4)
    by_case true = inr refl
    by_case false = inl refl

pub mean_obliquity_within : (day : Float) → day_refusal day ≡ 0 → Within 32 (mean_obliquity_of day).0
unfolding mean_obliquity_of mean_obliquity is_finite le neg add sub mul div of_bits round
mean_obliquity_within day none =
    let C = known (century_within day none) in
    within 32
    ((con (arc n84381·448) ⊟ C ⊠ (con (arc n46·8150) ⊞ C ⊠ (con (arc n0·00059) ⊟ C ⊠ con (arc n0·001813)))) ⊠ con degree) tt

-- the true obliquity, with nutation of 1.0 at most in size
pub obliquity_within : (day : Float) (n : Rad) → day_refusal day ≡ 0 → Within 1 n.0 → Within 64 (true_obliquity (mean_obliquity_of day) n).0
unfolding true_obliquity is_finite le neg add of_bits round
obliquity_within day n none N = within 64 (known (mean_obliquity_within day none) ⊞ known N) tt

module _ (day : Float) (accepted : day_refusal day ≡ 0) where
  nutation_small : Within 1 (nutation_of day).oblq.0
  nutation_small = ((nutation_outcome day accepted).answers (pair (nutation_of day).long.0 (nutation_of day).oblq.0) refl).1

  -- the true obliquity of an accepted day goes into a sine
  pub obliquity_far : size (true_obliquity (mean_obliquity_of day) (nutation_of day).oblq).0 ≼ farthest_alone
  unfolding is_finite le neg round
  obliquity_far =
      near_far (true_obliquity (mean_obliquity_of day) (nutation_of day).oblq).0
      (within 2048 (known (obliquity_within day (nutation_of day).oblq accepted nutation_small)) tt)

  -- and is never refused
  pub obliquity_accepted : angle_refusal (true_obliquity (mean_obliquity_of day) (nutation_of day).oblq) ≡ 0
  obliquity_accepted =
      angle_near (true_obliquity (mean_obliquity_of day) (nutation_of day).oblq) (obliquity_within day (nutation_of day).oblq accepted nutation_small)

-- what goes on from an answer, and meets no 14 there
fourteen_then : {A B : Type 0} (a : Answer A) (f : A → Answer B) → ((v : A) → a ≡ answered v → f v ≢ refused 14)
    → then a f ≡ refused 14 ↔ a ≡ refused 14
unfolding then
fourteen_then (answered v) f none = (λ e. absurd (none v refl e), λ e. absurd (refused_not_answered (sym e)))
fourteen_then (refused n) f none = (λ e. ap refused (same_number e), λ e. ap refused (same_number e))

refused_four : (k : ℕ) (a : Answer Pair) (n : ℕ) → k ≡ 4 → unless k a ≡ refused n → n ≡ 4
refused_four k a n f e = same (subst (λ (k : ℕ). unless k a ≡ refused n) f e)
  where
    same : ◌≡◌ {A = Answer Pair} (refused 4) (refused n) → n ≡ 4
    same e = cc

-- ---- the steps at the precessed point p, for nutation n, which meet 4 only

abbrev Four : ℕ → Type 0
Four n = n ≡ 4

module _ (p n : Pair) (day : Float) (P : IsPlace p) (N : BothWithin 1 n) (D : day_refusal day ≡ 0) where
  abbrev oblq : Rad
  oblq = true_obliquity (mean_obliquity_of day) (rad (second n))

  asc_none : angle_refusal (rad (first p)) ≡ 0
  asc_none = angle_near (rad (first p)) P.0

  -- an angle up to 1.0 in size
  small_none : (x : Float) → Within 1 x → angle_refusal (rad x) ≡ 0
  unfolding is_finite le neg round
  small_none x i = angle_near (rad x) (within 64 (known i) tt)

  nutation_cases : (nutation_in_refusal (point p) (rad (first n)) (rad (second n)) oblq ≡ 0) ⊎ (nutation_in_refusal (point p) (rad (first n)) (rad (second n)) oblq ≡ 4)
  nutation_cases =
      let L = small_none (first n) N.0 in
      let O = small_none (second n) N.1 in
      let E = angle_near oblq (obliquity_within day (rad (second n)) D N.1) in
      elim (steep_cases (rad (second p)) P.1) [ inl z ↦ inl (rw (asc_none, z, L, O, E)) | inr f ↦ inr (rw (asc_none, f, L, O, E)) ]

  aberr_cases : (stell_aberr_refusal (point p) day ≡ 0) ⊎ (stell_aberr_refusal (point p) day ≡ 4)
  aberr_cases =
      elim (steep_cases (rad (second p)) P.1) [ inl z ↦ inl (rw (asc_none, z, D)) | inr f ↦ inr (rw (asc_none, f, D)) ]

  nutation_step : Outcome (BothWithin 4194304) Four (nutation_in_eq_coords_rule (point p) (rad (first n)) (rad (second n)) oblq)
  unfolding nutation_in_eq_coords_rule
  nutation_step =
      let long = rad (first n) in
      let lat = rad (second n) in
      record {
        answers = nutation_in_eq_coords_answers (point p) long lat oblq;
        refuses =
            λ k e.
            elim nutation_cases [
              | inl z ↦ absurd (nutation_in_eq_coords_refuses (point p) long lat oblq z k e)
              | inr f ↦ refused_four (nutation_in_refusal (point p) long lat oblq) (answered (pair (nutation_in_eq_coords_in (point p) long lat oblq).asc.0 (nutation_in_eq_coords_in (point p) long lat oblq).dec.0)) k f e
            ];
      }

  aberr_step : Outcome (BothWithin 8) Four (stell_aberr_in_eq_coords_rule (point p) day)
  unfolding stell_aberr_in_eq_coords_rule
  aberr_step =
      record {
        answers = stell_aberr_in_eq_coords_answers (point p) day;
        refuses =
            λ k e.
            elim aberr_cases [
              | inl z ↦ absurd (stell_aberr_in_eq_coords_refuses (point p) day z k e)
              | inr f ↦ refused_four (stell_aberr_refusal (point p) day) (answered (pair (stell_aberr_in_eq_coords_in (point p) day).asc.0 (stell_aberr_in_eq_coords_in (point p) day).dec.0)) k f e
            ];
      }

  from_outcome : Outcome BothFinite Four (from_point p n day)
  unfolding is_finite le neg add of_bits round
  from_outcome =
      outcome_then (λ (s : Pair). then (stell_aberr_in_eq_coords_rule (point p) day) (λ (a : Pair). answered (sum p s a)))
      (λ s S.
      outcome_then (λ (a : Pair). answered (sum p s a))
      (λ a A.
      outcome_answered (sum p s a)
      ((within 8388608 ((known P.0 ⊞ known S.0) ⊞ known A.0) tt).finite, (within 8388608 ((known P.1 ⊞ known S.1) ⊞ known A.1) tt).finite))
      (stell_aberr_in_eq_coords_rule (point p) day) aberr_step)
      (nutation_in_eq_coords_rule (point p) (rad (first n)) (rad (second n)) oblq) nutation_step

-- ---- the chain

module _ (edition : Edition) (asc dec : Rad) (day1 day2 : Float) where
  -- the steps after precession
  abbrev after : Pair → Answer Pair
  after p = then (nutation_rule day2) (λ (n : Pair). from_point p n day2)

  after_outcome : day_refusal day2 ≡ 0 → (p : Pair) → IsPlace p → Outcome BothFinite Four (after p)
  after_outcome D p P =
      let nutated : Outcome (BothWithin 1) Four (nutation_rule day2) = record {
        answers = nutation_answers day2;
        refuses = λ n e. absurd (nutation_refuses day2 D n e);
      } in
      outcome_then (λ (n : Pair). from_point p n day2) (λ n N. from_outcome p n day2 P N D) (nutation_rule day2) nutated

  second_day : place_refusal asc dec day1 day2 ≡ 0 → day_refusal day2 ≡ 0
  second_day none = second_accepted day1 day2 (place_accepted asc dec day1 day2 none).2

  outcome : place_refusal asc dec day1 day2 ≡ 0 → Outcome BothFinite FourSevenOrFourteen (chain_rule edition asc dec day1 day2)
  unfolding chain_rule
  outcome none =
      let precessed : Outcome IsPlace FourSevenOrFourteen (precess_eq_coords_rule edition asc dec day1 day2) = record {
        answers = precess_eq_coords_answers edition asc dec day1 day2;
        refuses = λ n e. inr (precess_eq_coords_refuses edition asc dec day1 day2 none n e);
      } in
      outcome_then after
      (λ p P.
      let o = after_outcome (second_day none) p P in
      record { answers = o.answers; refuses = λ n e. inl (o.refuses n e) })
      (precess_eq_coords_rule edition asc dec day1 day2) precessed

  -- 14 or 7 in precession, or 4 for the precessed declination
  pub chain_refuses : place_refusal asc dec day1 day2 ≡ 0 → (n : ℕ) → chain_rule edition asc dec day1 day2 ≡ refused n → FourSevenOrFourteen n
  chain_refuses none = (outcome none).refuses

  -- 14 exactly where precession meets it
  pub chain_fourteen : place_refusal asc dec day1 day2 ≡ 0
      → chain_rule edition asc dec day1 day2 ≡ refused 14 ↔ T (no_direction asc dec (eq_precession_of edition day1 day2))
  unfolding chain_rule
  chain_fourteen none =
      Iff.trans
      (fourteen_then (precess_eq_coords_rule edition asc dec day1 day2) after
      (λ p i e. not_four ((after_outcome (second_day none) p (precess_eq_coords_answers edition asc dec day1 day2 p i)).refuses 14 e)))
      (precess_eq_coords_fourteen edition asc dec day1 day2 none)
    where
      not_four : ◌≡◌ {A = ℕ} 14 4 → ⊥
      not_four h = omega arith

  pub chain_finite : (v : Pair) → chain_rule edition asc dec day1 day2 ≡ answered v → BothFinite v
  unfolding chain_rule
  chain_finite v e =
      let n = place_refusal asc dec day1 day2 in
      let work = precessed_in asc dec (eq_precession_of edition day1 day2) in
      let none = (answered_unless n (then work after) v (sym (then_unless n work after) ∙ e)).0 in
      (outcome none).answers v e

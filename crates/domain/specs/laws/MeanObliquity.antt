-- The chain by the mean obliquity refuses exactly where the chain does, by the same number: on an accepted day neither obliquity is refused.
use Rattle.std.specs.Prelude.{ℕ, ◌≡◌, Bool, cond, eqb, Float}
use Rattle.std.proofs.Math.Path.{refl}
use Rattle.std.proofs.Common.{sym, subst}
use Rattle.std.proofs.Math.Bool.{true, false}
use Rattle.std.specs.Float.Ieee.{neg, le, round}
use Rattle.double.specs.rules.Sign.{is_finite}
use Rattle.double.specs.notions.Range.{known}
use Rattle.quantity.specs.declared.Rad.{Rad}
use Rattle.quantity.specs.rules.Angle.{rad}
use Rattle.quantity.specs.rules.Answer.{Answer, answered, refused, Pair, pair, first, second, unless, then}
use Rattle.quantity.specs.rules.Refusal.{day_refusal, angle_refusal}
use Rattle.quantity.specs.laws.Steps.{refused_not_answered}
use Rattle.edition.specs.declared.Edition.{Edition}
use Rattle.quantity.specs.laws.Accepted.{answered_unless}
use Rattle.precess.specs.rules.Equatorial.{precess_eq_coords_rule}
use Rattle.nutation_table.specs.rules.Day.{nutation_of}
use Rattle.nutation.specs.rules.Day.{nutation_rule}
use Rattle.nutation.specs.rules.Point.{nutation_in_refusal, nutation_in_eq_coords_in, nutation_in_eq_coords_rule}
use Rattle.aberr.specs.rules.Star.{stell_aberr_in_eq_coords_rule}
use Rattle.chain.specs.rules.Obliquity.{mean_obliquity_of, true_obliquity}
use Rattle.chain.specs.rules.Chain.{point, sum, from_point, chain_rule}
use Rattle.chain.specs.notions.Wrong.{mean_for_true, chain_by}
use Rattle.domain_accepted.specs.laws.Near.{within}
use Rattle.domain.specs.notions.Alike.{RefusedAlike}
use Rattle.domain.specs.laws.NutationSum.{nutation_answers}
use Rattle.domain.specs.laws.Chain.{angle_near, mean_obliquity_within, obliquity_within}

-- two answers are not refused
answers_alike : {A : Type 0} (x y : A) → RefusedAlike (answered x) (answered y)
answers_alike x y =
    record { there = λ n e. absurd (refused_not_answered (sym e)); here = λ n e. absurd (refused_not_answered (sym e)) }

module _ {A B : Type 0} where
  -- one step, and then steps that refuse alike of what it answers
  then_alike : (a : Answer A) (f g : A → Answer B) → ((x : A) → a ≡ answered x → RefusedAlike (f x) (g x))
      → RefusedAlike (then a f) (then a g)
  unfolding then
  then_alike (answered x) f g h = h x refl
  then_alike (refused k) f g h = record { there = λ n e. e; here = λ n e. e }

  -- two steps that test the same, and then steps that refuse alike whatever was answered
  tested_alike : (m k : ℕ) (x y : A) (f g : A → Answer B) → m ≡ k → RefusedAlike (f x) (g y)
      → RefusedAlike (then (unless m (answered x)) f) (then (unless k (answered y)) g)
  unfolding then
  tested_alike m k x y f g same h = rw same (by_case (eqb k 0))
    where
      by_case : (t : Bool) → RefusedAlike (then (cond t (answered x) (refused k)) f) (then (cond t (answered y) (refused k)) g)
      by_case true = h
      by_case false = record { there = λ n e. e; here = λ n e. e }

module _ (edition : Edition) (asc dec : Rad) (day1 day2 : Float) where
  -- on an accepted day, for its nutation n
  module _ (n : Pair) (is : nutation_rule day2 ≡ answered n) where
    accepted : day_refusal day2 ≡ 0
    unfolding nutation_rule
    accepted = (answered_unless (day_refusal day2) (answered (pair (nutation_of day2).long.0 (nutation_of day2).oblq.0)) n is).0

    true_taken : angle_refusal (true_obliquity (mean_obliquity_of day2) (rad (second n))) ≡ 0
    true_taken =
        angle_near (true_obliquity (mean_obliquity_of day2) (rad (second n)))
        (obliquity_within day2 (rad (second n)) accepted (nutation_answers day2 n is).1)

    mean_taken : angle_refusal (mean_obliquity_of day2) ≡ 0
    unfolding is_finite le neg round
    mean_taken = angle_near (mean_obliquity_of day2) (within 64 (known (mean_obliquity_within day2 accepted)) tt)

    point_alike : (p : Pair)
        → RefusedAlike (from_point p n day2)
        (then (nutation_in_eq_coords_rule (point p) (rad (first n)) (rad (second n)) (mean_obliquity_of day2))
        (λ (dn : Pair). then (stell_aberr_in_eq_coords_rule (point p) day2) (λ (da : Pair). answered (sum p dn da))))
    unfolding nutation_in_eq_coords_rule
    point_alike p =
        let long = rad (first n) in
        let oblq = rad (second n) in
        let tru = true_obliquity (mean_obliquity_of day2) oblq in
        let f : Pair → Answer Pair = λ (dn : Pair). then (stell_aberr_in_eq_coords_rule (point p) day2) (λ (da : Pair). answered (sum p dn da)) in
        let x = pair (nutation_in_eq_coords_in (point p) long oblq tru).asc.0 (nutation_in_eq_coords_in (point p) long oblq tru).dec.0 in
        let y = pair (nutation_in_eq_coords_in (point p) long oblq (mean_obliquity_of day2)).asc.0 (nutation_in_eq_coords_in (point p) long oblq (mean_obliquity_of day2)).dec.0 in
        tested_alike (nutation_in_refusal (point p) long oblq tru) (nutation_in_refusal (point p) long oblq (mean_obliquity_of day2)) x y f f
        (rw (true_taken, mean_taken))
        (then_alike (stell_aberr_in_eq_coords_rule (point p) day2) (λ (da : Pair). answered (sum p x da)) (λ (da : Pair). answered (sum p y da))
        (λ da e. answers_alike (sum p x da) (sum p y da)))

  pub chain_by_mean_refused_alike : RefusedAlike (chain_rule edition asc dec day1 day2) (chain_by mean_for_true edition asc dec day1 day2)
  unfolding chain_rule
  chain_by_mean_refused_alike =
      then_alike (precess_eq_coords_rule edition asc dec day1 day2)
      (λ (p : Pair). then (nutation_rule day2) (λ (n : Pair). from_point p n day2))
      (λ (p : Pair). then (nutation_rule day2)
      (λ (n : Pair). then (nutation_in_eq_coords_rule (point p) (rad (first n)) (rad (second n)) (mean_obliquity_of day2))
      (λ (dn : Pair). then (stell_aberr_in_eq_coords_rule (point p) day2) (λ (da : Pair). answered (sum p dn da)))))
      (λ p e. then_alike (nutation_rule day2) (λ (n : Pair). from_point p n day2)
      (λ (n : Pair). then (nutation_in_eq_coords_rule (point p) (rad (first n)) (rad (second n)) (mean_obliquity_of day2))
      (λ (dn : Pair). then (stell_aberr_in_eq_coords_rule (point p) day2) (λ (da : Pair). answered (sum p dn da))))
      (λ n is. point_alike n is p))

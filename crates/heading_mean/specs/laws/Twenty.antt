-- A set is refused by 20 exactly where it is accepted and none of its sights is a reference; no other refusal is above 8.
use Rattle.std.specs.Prelude.{◌≡◌, refl, Bool, true, false, cond, List, [], ◌∷◌, ℕ, suc, ◌≤◌, ◌<◌, eqb, leb, length, get_or}
use Rattle.std.proofs.Common.{sym, ap, ◌∙◌, arith}
use Rattle.std.specs.Float.Ieee.{le, lt}
use Rattle.double.specs.rules.Operations as operations
use Rattle.double.specs.rules.Sign.{is_finite}
use Rattle.double.specs.laws.Tests.{by_test}
use Rattle.quantity.specs.declared.Deg.{Deg}
use Rattle.quantity.specs.rules.Answer.{Answer, answered, refused}
use Rattle.quantity.specs.rules.Refusal.{lower}
use Rattle.helpers.specs.rules.Angle.{turn_in_degrees}
use Rattle.helpers.specs.rules.Circle.{circle_refusal}
use Rattle.list.specs.rules.Stars.{most_stars}
use Rattle.residual_sheet.specs.rules.Residuals.{least_refusal}
use Rattle.heading_mean.specs.rules.Reference.{heading_of, is_reference, first_reference, reference_place}
use Rattle.heading_mean.specs.rules.Mean.{bits_refusal, number_refusal, headings_refusal, MeanAndSheet, mean_in, mean_heading_rule}
use Rattle.heading_mean.specs.laws.Accepted.{with_reference, without_reference}
use Rattle.heading_mean.specs.laws.OneOff.{not_after}

-- ---- none is a reference

none_first : (all s : List ℕ) → ((i : ℕ) → i < length s → is_reference all (get_or s i 0) ≡ false) → first_reference all s ≡ length s
unfolding first_reference
none_first all [] f = refl
none_first all (b ∷ bs) f = rw (f 0 (omega arith)) (ap suc (none_first all bs (λ i h. f (suc i) (omega arith))))

pub none_agree_refused : (headings : List ℕ) → headings_refusal headings ≡ 0 → ((i : ℕ) → i < length headings → is_reference headings (get_or headings i 0) ≡ false)
    → mean_heading_rule headings ≡ refused 20
unfolding mean_heading_rule
none_agree_refused headings e f =
    let p = none_first headings headings f in
    rw e (sym (without_reference headings (reference_place headings) refl (omega (arith, p))))

-- ---- no other refusal is above 8

heading_most : (x : Deg) → circle_refusal x ≤ 8
unfolding circle_refusal
heading_most x = by_flags (is_finite x.0) (le operations.zero x.0) (lt x.0 turn_in_degrees)
  where
    by_flags : (p q r : Bool) → cond p (cond q (cond r 0 3) 3) 1 ≤ 8
    by_flags false q r = omega arith
    by_flags true false r = omega arith
    by_flags true true false = omega arith
    by_flags true true true = omega arith

lower_most : (a b : ℕ) → a ≤ 8 → b ≤ 8 → lower a b ≤ 8
lower_most a b h k =
    by_test (λ (n : ℕ). n ≤ 8) (eqb a 0) b (cond (eqb b 0) a (cond (leb a b) a b)) (λ t. k)
    (λ t. by_test (λ (n : ℕ). n ≤ 8) (eqb b 0) a (cond (leb a b) a b) (λ u. h) (λ u. by_test (λ (n : ℕ). n ≤ 8) (leb a b) a b (λ v. h) (λ v. k)))

least_most : (s : List ℕ) → least_refusal bits_refusal s ≤ 8
unfolding least_refusal
least_most [] = omega arith
least_most (b ∷ bs) = lower_most (bits_refusal b) (least_refusal bits_refusal bs) (heading_most (heading_of b)) (least_most bs)

number_most : (n : ℕ) → number_refusal n ≤ 8
unfolding number_refusal
number_most n =
    by_test (λ (k : ℕ). k ≤ 8) (eqb n 0) 8 (cond (leb n most_stars) 0 8) (λ t. omega arith)
    (λ t. by_test (λ (k : ℕ). k ≤ 8) (leb n most_stars) 0 8 (λ u. omega arith) (λ u. omega arith))

pub headings_refusal_most : (headings : List ℕ) → headings_refusal headings ≤ 8
unfolding headings_refusal
headings_refusal_most headings =
    let n = number_refusal (length headings) in
    by_test (λ (k : ℕ). k ≤ 8) (eqb n 0) (least_refusal bits_refusal headings) n (λ t. least_most headings) (λ t. number_most (length headings))

-- ---- 20 says that none is

-- an answer as one number
abbrev told : Answer MeanAndSheet → ℕ
told (answered m) = 0
told (refused n) = n

pub refused_none_agree : (headings : List ℕ) → mean_heading_rule headings ≡ refused 20 → (i : ℕ) → i < length headings
    → is_reference headings (get_or headings i 0) ≡ false
unfolding mean_heading_rule
refused_none_agree headings e i h = by-refusal (eqb (headings_refusal headings) 0) refl e
  where
    no_answer : is_reference headings (get_or headings i 0) ≡ true → mean_in headings ≡ refused 20 → ⊥
    no_answer f g =
        let there = not_after headings headings i h f in
        omega (arith, ap told (with_reference headings (reference_place headings) refl (omega (arith, there)) ∙ g))

    by_flag : (t : Bool) → is_reference headings (get_or headings i 0) ≡ t → mean_in headings ≡ refused 20 → t ≡ false
    by_flag true f g = absurd (no_answer f g)
    by_flag false f g = refl

    by-refusal : (t : Bool) → eqb (headings_refusal headings) 0 ≡ t → cond t (mean_in headings) (refused (headings_refusal headings)) ≡ refused 20
        → is_reference headings (get_or headings i 0) ≡ false
    by-refusal true f g = by_flag (is_reference headings (get_or headings i 0)) refl g
    by-refusal false f g = absurd (omega (arith, ap told g, headings_refusal_most headings))

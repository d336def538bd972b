-- Of three or more sights that agree but for one, that one never enters the mean, wherever in the order it stands.
use Rattle.std.specs.Prelude.{◌≡◌, ◌⊎◌, Bool, true, false, cond, length, get_or}
use Rattle.std.proofs.Math.Path.{refl}
use Rattle.std.proofs.Common.{sym, ap, ◌∙◌, inl, inr, true≢false, le_of_suc-le-suc}
use mathlib.Core.List.{List, [], ◌∷◌}
use Prim.Native.Nat.{ℕ, zero, suc, ◌+◌, ◌*◌, ◌≤◌, ◌<◌}
use native.Mathlib.Omega.{arith}
use borrow.Author.Tests.{lt-ltb, le-ltb}
use Rattle.double.specs.laws.Numbers.{less_or_not}
use Rattle.quantity.specs.declared.Deg.{Deg}
use Rattle.quantity.specs.rules.Answer.{answered}
use Rattle.helpers.specs.laws.Circle.{circle_finite}
use Rattle.residual_sheet.specs.rules.Residual.{is_aside}
use Rattle.residual_sheet.specs.rules.Entry.{aside}
use Rattle.heading_mean.specs.rules.Residual.{residual_from}
use Rattle.heading_mean.specs.rules.Reference.{heading_of, vote, agreeing, is_reference, first_reference, reference_place}
use Rattle.heading_mean.specs.rules.Mean.{headings_refusal, entry_from, mean_from, mean_heading_rule}
use Rattle.heading_mean.specs.notions.Accepted.{Accepted}
use Rattle.heading_mean.specs.notions.Near.{reference_of}
use Rattle.heading_mean.specs.notions.Far.{OneOff}
use Rattle.heading_mean.specs.laws.Reference.{vote_within}
use Rattle.heading_mean.specs.laws.Accepted.{each_accepted, with_reference}
use Rattle.heading_mean.specs.laws.Answered.{first_is}
use Rattle.heading_mean.specs.laws.Far.{half_a_turn_turned, half_a_turn_is_aside}

-- ---- counting all but one

module _ (reference : Deg) where
  none_agree : (s : List ℕ) → ((i : ℕ) → i < length s → vote reference (get_or s i 0) ≡ 0) → agreeing reference s ≡ 0
  unfolding agreeing
  none_agree [] f = refl
  none_agree (b ∷ bs) f = omega (arith, f 0 (omega arith), none_agree bs (λ i h. f (suc i) (omega arith)))

  all_agree : (s : List ℕ) → ((i : ℕ) → i < length s → vote reference (get_or s i 0) ≡ 1) → agreeing reference s ≡ length s
  unfolding agreeing
  all_agree [] f = refl
  all_agree (b ∷ bs) f = omega (arith, f 0 (omega arith), all_agree bs (λ i h. f (suc i) (omega arith)))

  one_at_most : (s : List ℕ) (j : ℕ) → ((i : ℕ) → i < length s → (i ≡ j → ⊥) → vote reference (get_or s i 0) ≡ 0) → agreeing reference s ≤ 1
  unfolding agreeing
  one_at_most [] j f = omega arith
  one_at_most (b ∷ bs) zero f = omega (arith, vote_within reference b, none_agree bs (λ i h. f (suc i) (omega arith) (λ e. omega arith)))
  one_at_most (b ∷ bs) (suc j) f =
      omega (arith, f 0 (omega arith) (λ e. omega arith), one_at_most bs j (λ i h d. f (suc i) (omega arith) (λ e. d (omega arith))))

  all_but_one : (s : List ℕ) (j : ℕ) → ((i : ℕ) → i < length s → (i ≡ j → ⊥) → vote reference (get_or s i 0) ≡ 1) → length s ≤ agreeing reference s + 1
  unfolding agreeing
  all_but_one [] j f = omega arith
  all_but_one (b ∷ bs) zero f = omega (arith, all_agree bs (λ i h. f (suc i) (omega arith) (λ e. omega arith)))
  all_but_one (b ∷ bs) (suc j) f =
      omega (arith, f 0 (omega arith) (λ e. omega arith), all_but_one bs j (λ i h d. f (suc i) (omega arith) (λ e. d (omega arith))))

-- a reference is not after one
pub not_after : (all s : List ℕ) (i : ℕ) → i < length s → is_reference all (get_or s i 0) ≡ true → first_reference all s ≤ i
unfolding first_reference
not_after all [] i h e = absurd (omega arith)
not_after all (b ∷ bs) zero h e = rw e (omega arith)
not_after all (b ∷ bs) (suc i) h e = by_flag (is_reference all b) (not_after all bs i (le_of_suc-le-suc h) e)
  where
    by_flag : (t : Bool) → first_reference all bs ≤ i → cond t 0 (suc (first_reference all bs)) ≤ suc i
    by_flag true k = omega arith
    by_flag false k = omega arith

-- ---- the one that is off

module _ (headings : List ℕ) (j : ℕ) (o : OneOff headings j) (a : Accepted headings) where
  abbrev at : ℕ → Deg
  at i = heading_of (get_or headings i 0)

  aside_from : (i : ℕ) → i < length headings → (i ≡ j → ⊥) → is_aside (residual_from (at i) (at j)) ≡ true
  aside_from i h d = half_a_turn_is_aside (at i) (at j) (each_accepted headings a i h) (each_accepted headings a j o.there) (o.off i h d)

  aside_to : (i : ℕ) → i < length headings → (i ≡ j → ⊥) → is_aside (residual_from (at j) (at i)) ≡ true
  aside_to i h d =
      let I = each_accepted headings a i h in
      let J = each_accepted headings a j o.there in
      half_a_turn_is_aside (at j) (at i) J I (half_a_turn_turned (at i) (at j) (circle_finite (at i) I) (circle_finite (at j) J) (o.off i h d))

  -- none agrees with it but itself
  pub off_is_no_reference : is_reference headings (get_or headings j 0) ≡ false
  unfolding is_reference vote
  off_is_no_reference =
      let few = one_at_most (at j) headings j (λ i h d. rw (aside_to i h d)) in
      le-ltb (length headings) (2 * agreeing (at j) headings) (omega (arith, few, o.many))

  -- every other is a reference
  pub others_are_references : (i : ℕ) → i < length headings → (i ≡ j → ⊥) → is_reference headings (get_or headings i 0) ≡ true
  unfolding is_reference vote
  others_are_references i h d =
      let most = all_but_one (at i) headings j (λ k g f. rw (o.agree i k h g d f)) in
      lt-ltb (length headings) (2 * agreeing (at i) headings) (omega (arith, most, o.many))

  place_there : reference_place headings < length headings
  place_there = by_place (less_or_not 0 j)
    where
      by_place : (0 < j) ⊎ (j ≤ 0) → reference_place headings < length headings
      by_place (inl h) =
          omega (arith, o.many, not_after headings headings 0 (omega (arith, o.many)) (others_are_references 0 (omega (arith, o.many)) (λ e. omega arith)))
      by_place (inr h) =
          omega (arith, o.many, not_after headings headings 1 (omega (arith, o.many)) (others_are_references 1 (omega (arith, o.many)) (λ e. omega arith)))

  pub off_is_not_the_reference : reference_place headings ≡ j → ⊥
  off_is_not_the_reference e =
      true≢false
      (sym (first_is headings headings place_there) ∙ ap (λ (i : ℕ). is_reference headings (get_or headings i 0)) e ∙ off_is_no_reference)

  -- the call answers, and the sight is set aside
  pub one_off_is_answered : headings_refusal headings ≡ 0 → mean_heading_rule headings ≡ answered (mean_from (reference_of headings) headings)
  unfolding mean_heading_rule
  one_off_is_answered e = rw e (sym (with_reference headings (reference_place headings) refl place_there))

  pub one_off_never_enters : entry_from (reference_of headings) headings j ≡ aside
  unfolding entry_from
  one_off_never_enters = rw (aside_from (reference_place headings) place_there off_is_not_the_reference)

-- The counting of those that agree, and the search for the reference, one heading after the other.
use Rattle.std.specs.Prelude.{◌≡◌, Bool, true, false, ltb, length, drop, get_or}
use Rattle.std.proofs.Math.Path.{refl}
use Rattle.std.proofs.Common.{sym, ap, ◌∙◌, le_of_suc-le-suc, add-one, ltb→lt, nltb→le, lt-ltb, le-ltb}
use mathlib.Core.List.{List, [], ◌∷◌}
use Prim.Native.Nat.{ℕ, zero, suc, ◌+◌, ◌-◌, ◌*◌, ◌≤◌, ◌<◌}
use native.Mathlib.Omega.{arith}
use Rattle.double.specs.laws.Tests.{by_test, holds, fails}
use Rattle.quantity.specs.declared.Deg.{Deg}
use Rattle.residual_sheet.specs.rules.Residual.{is_aside}
use Rattle.heading_mean.specs.rules.Residual.{residual_from}
use Rattle.heading_mean.specs.rules.Reference.{heading_of, vote, agreeing, is_reference, first_reference}

-- ---- how many agree

module _ (reference : Deg) where
  pub vote_within : (b : ℕ) → vote reference b ≤ 1
  unfolding vote
  vote_within b =
      by_test (λ (n : ℕ). n ≤ 1) (is_aside (residual_from reference (heading_of b))) 0 1 (λ t. omega arith) (λ t. omega arith)

  next_vote : (s : List ℕ) (i : ℕ) → i < length s
      → agreeing reference (drop i s) ≡ vote reference (get_or s i 0) + agreeing reference (drop (suc i) s)
  unfolding agreeing
  next_vote [] i h = absurd (omega arith)
  next_vote (b ∷ bs) zero h = refl
  next_vote (b ∷ bs) (suc i) h = next_vote bs i (le_of_suc-le-suc h)

  pub agreeing_next : (s : List ℕ) (i n : ℕ) → i < length s
      → n + vote reference (get_or s i 0) + agreeing reference (drop (i + 1) s) ≡ n + agreeing reference (drop i s)
  agreeing_next s i n h =
      ap (λ (k : ℕ). n + vote reference (get_or s i 0) + agreeing reference (drop k s)) (add-one i) ∙ omega (arith, next_vote s i h)

  none_left : (s : List ℕ) (i : ℕ) → length s ≤ i → agreeing reference (drop i s) ≡ 0
  unfolding agreeing
  none_left [] zero h = refl
  none_left [] (suc i) h = refl
  none_left (b ∷ bs) zero h = absurd (omega arith)
  none_left (b ∷ bs) (suc i) h = none_left bs i (le_of_suc-le-suc h)

  pub agreeing_done : (s : List ℕ) (i n : ℕ) → length s ≤ i → n ≡ n + agreeing reference (drop i s)
  agreeing_done s i n h = omega (arith, none_left s i h)

  pub agreeing_within : (s : List ℕ) → agreeing reference s ≤ length s
  unfolding agreeing
  agreeing_within [] = omega arith
  agreeing_within (b ∷ bs) = omega (arith, vote_within b, agreeing_within bs)

-- more agree than do not
pub more_than_half : (n a : ℕ) → a ≤ n → ltb (n - a) a ≡ ltb n (2 * a)
more_than_half n a h = by-half (ltb (n - a) a) refl
  where
    by-half : (t : Bool) → ltb (n - a) a ≡ t → t ≡ ltb n (2 * a)
    by-half true e = sym (lt-ltb n (2 * a) (omega (arith, h, ltb→lt (n - a) a (holds e))))
    by-half false e = sym (le-ltb n (2 * a) (omega (arith, h, nltb→le (n - a) a (fails e))))

-- ---- the first

module _ (all : List ℕ) where
  pub reference_here : (s : List ℕ) (i : ℕ) → i < length s → is_reference all (get_or s i 0) ≡ true → first_reference all (drop i s) ≡ 0
  unfolding first_reference
  reference_here [] i h e = absurd (omega arith)
  reference_here (b ∷ bs) zero h e = rw e
  reference_here (b ∷ bs) (suc i) h e = reference_here bs i (le_of_suc-le-suc h) e

  reference_after : (s : List ℕ) (i : ℕ) → i < length s → is_reference all (get_or s i 0) ≡ false
      → first_reference all (drop i s) ≡ suc (first_reference all (drop (suc i) s))
  unfolding first_reference
  reference_after [] i h e = absurd (omega arith)
  reference_after (b ∷ bs) zero h e = rw e
  reference_after (b ∷ bs) (suc i) h e = reference_after bs i (le_of_suc-le-suc h) e

  pub reference_next : (s : List ℕ) (i : ℕ) → i < length s → is_reference all (get_or s i 0) ≡ false
      → i + 1 + first_reference all (drop (i + 1) s) ≡ i + first_reference all (drop i s)
  reference_next s i h e =
      ap (λ (k : ℕ). i + 1 + first_reference all (drop k s)) (add-one i) ∙ omega (arith, reference_after s i h e)

  pub reference_none : (s : List ℕ) (i : ℕ) → length s ≤ i → first_reference all (drop i s) ≡ 0
  unfolding first_reference
  reference_none [] zero h = refl
  reference_none [] (suc i) h = refl
  reference_none (b ∷ bs) zero h = absurd (omega arith)
  reference_none (b ∷ bs) (suc i) h = reference_none bs i (le_of_suc-le-suc h)

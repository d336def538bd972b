-- Lists by their elements' rule: length, elements, and one element set.
use Rattle.std.specs.Prelude.{◌≡◌, refl, List, ◌∷◌, ℕ, zero, suc, ◌<◌, length, get_or, set}
use Rattle.std.proofs.Common.{ap, le_of_suc-le-suc, not-suc-le-zero, arith}
use Rattle.lent.specs.rules.Rows.{upto}

module _ {A : Type 0} where
  pub length_upto : (n : ℕ) (f : ℕ → A) → length (upto n f) ≡ n
  length_upto zero f = refl
  length_upto (suc n) f = ap suc (length_upto n (λ (i : ℕ). f (suc i)))

  pub get_d_upto : (n : ℕ) (f : ℕ → A) (i : ℕ) (d : A) → i < n → get_or (upto n f) i d ≡ f i
  get_d_upto zero f i d h = absurd (not-suc-le-zero h)
  get_d_upto (suc n) f zero d h = refl
  get_d_upto (suc n) f (suc i) d h = get_d_upto n (λ (k : ℕ). f (suc k)) i d (le_of_suc-le-suc h)

  pub upto_same : (n : ℕ) (f g : ℕ → A) → ((i : ℕ) → f i ≡ g i) → upto n f ≡ upto n g
  upto_same zero f g h = refl
  upto_same (suc n) f g h = λ i. h zero i ∷ upto_same n (λ (k : ℕ). f (suc k)) (λ (k : ℕ). g (suc k)) (λ (k : ℕ). h (suc k)) i

  -- g differs from f at k alone
  pub set_upto : (n : ℕ) (f g : ℕ → A) (k : ℕ) → k < n → ((j : ℕ) → (j ≡ k → ⊥) → f j ≡ g j)
      → set (upto n f) k (g k) ≡ upto n g
  set_upto zero f g k h same = absurd (not-suc-le-zero h)
  set_upto (suc n) f g zero h same =
      ap (λ (l : List A). g zero ∷ l)
      (upto_same n (λ (j : ℕ). f (suc j)) (λ (j : ℕ). g (suc j)) (λ (j : ℕ). same (suc j) (λ e. omega arith)))
  set_upto (suc n) f g (suc k) h same =
      let rest =
      set_upto n (λ (j : ℕ). f (suc j)) (λ (j : ℕ). g (suc j)) k (le_of_suc-le-suc h) (λ (j : ℕ) d. same (suc j) (λ e. d (omega arith))) in
      λ i. same zero (λ e. omega arith) i ∷ rest i

-- Records of one width, one after the other: what is written is read back, and what is read is written back, whatever a record holds.
use Rattle.std.specs.Prelude.{◌≡◌, refl, Bool, true, false, ◌&&◌, List, [], ◌∷◌, ◌++◌, ℕ, zero, suc, ◌+◌, ◌*◌, ◌≤◌, ◌<◌, length, drop, get_or}
use Rattle.std.proofs.Common.{sym, ap, ◌∙◌, subst, append_assoc, append-nil, suc-mul, zero-mul, add_comm, le_of_suc-le-suc, not-suc-le-zero, arith, length-drop, length-append, drop_at, get_or-drop}
use Rattle.lent.specs.rules.Texts.{texts}
use Rattle.lent.specs.laws.Upto.{upto_same}
use Rattle.list.specs.rules.Stars.{records_at, records_bytes, nought, all_are, AllHold, Bytes}
use Rattle.list.specs.notions.Whole.{Kept}
use Rattle.list.specs.declared.Star.{Star}

-- the first text, and those after it
texts_first : (n : ℕ) (f : ℕ → List ℕ) → texts (suc n) f ≡ f 0 ++ texts n (λ (i : ℕ). f (suc i))
texts_first zero f = sym (append-nil (f 0))
texts_first (suc n) f =
    ap (λ (t : List ℕ). t ++ f (suc n)) (texts_first n f) ∙ append_assoc (f 0) (texts n (λ (i : ℕ). f (suc i))) (f (suc n))

-- records written one after the other, by their index
pub texts_records : (bytes : Star → List ℕ) (rs : List Star) → texts (length rs) (λ (i : ℕ). bytes (get_or rs i nought)) ≡ records_bytes bytes rs
texts_records bytes [] = refl
texts_records bytes (r ∷ rs) =
    texts_first (length rs) (λ (i : ℕ). bytes (get_or (r ∷ rs) i nought)) ∙ ap (λ (t : List ℕ). bytes r ++ t) (texts_records bytes rs)

-- what holds of each by its index, and what fails of one
module _ (is : Star → Bool) where
  pub all_are_lem : (rs : List Star) → ((i : ℕ) → i < length rs → is (get_or rs i nought) ≡ true) → all_are is rs ≡ true
  all_are_lem [] h = refl
  all_are_lem (r ∷ rs) h = rw (h 0 (omega arith)) (all_are_lem rs (λ (i : ℕ) b. h (suc i) (omega arith)))

  pub one_is_not : (rs : List Star) (i : ℕ) → i < length rs → is (get_or rs i nought) ≡ false → all_are is rs ≡ false
  one_is_not [] i h e = absurd (not-suc-le-zero h)
  one_is_not (r ∷ rs) zero h e = rw e
  one_is_not (r ∷ rs) (suc i) h e =
      ap (λ (b : Bool). is r && b) (one_is_not rs i (le_of_suc-le-suc h) e) ∙ neither (is r)
    where
      neither : (b : Bool) → (b && false) ≡ false
      neither true = refl
      neither false = refl

bytes_drop : (k : ℕ) (s : List ℕ) → Bytes s → Bytes (drop k s)
bytes_drop k s y i = rw (get_or-drop k s i 0) (y (k + i))

module _ (w : ℕ) (at : List ℕ → ℕ → Star) (further : (k i : ℕ) (s : List ℕ) → at (drop k s) i ≡ at s (k + i)) where
  -- the first, and those of what is left
  first : (n : ℕ) (s : List ℕ) → records_at w at (suc n) s ≡ at s 0 ∷ records_at w at n (drop w s)
  first n s =
      λ i.
      at s (zero-mul w i)
      ∷ upto_same n (λ (k : ℕ). at s (suc k * w)) (λ (k : ℕ). at (drop w s) (k * w))
      (λ (k : ℕ). ap (at s) (suc-mul k w ∙ add_comm (k * w) w) ∙ sym (further w (k * w) s))
      i

  module _ (bytes : Star → List ℕ) (long : (r : Star) → length (bytes r) ≡ w) where
    pub length_records : (rs : List Star) → length (records_bytes bytes rs) ≡ length rs * w
    length_records [] = sym (zero-mul w)
    length_records (r ∷ rs) =
        length-append (bytes r) (records_bytes bytes rs)
        ∙ (λ i. long r i + length_records rs i)
        ∙ add_comm w (length rs * w)
        ∙ sym (suc-mul (length rs) w)

    module _ (Holds : Star → Type 0) where
      pub records_back : ((r : Star) (rest : List ℕ) → Holds r → at (bytes r ++ rest) 0 ≡ r)
          → (rs : List Star) → AllHold Holds rs → records_at w at (length rs) (records_bytes bytes rs) ≡ rs
      records_back back [] f = refl
      records_back back (r ∷ rs) f =
          let rest = records_bytes bytes rs in
          first (length rs) (bytes r ++ rest)
          ∙ (λ i. back r rest f.0 i ∷ records_at w at (length rs) (drop_at (bytes r) rest w (long r) i))
          ∙ ap (λ (l : List Star). r ∷ l) (records_back back rs f.1)

      pub records_here : ((s : List ℕ) → Bytes s → w ≤ length s → (bytes (at s 0) ++ drop w s ≡ s) × Holds (at s 0))
          → (n : ℕ) (s : List ℕ) → length s ≡ n * w → Bytes s → Kept bytes Holds (records_at w at n s) s
      records_here here zero [] h y = record { bytes = refl; fitting = tt }
      records_here here zero (b ∷ s) h y = absurd (omega (arith, zero-mul w))
      records_here here (suc n) s h y =
          let p = here s y (omega (arith, suc-mul n w)) in
          let k = records_here here n (drop w s) (length-drop w s ∙ omega (arith, suc-mul n w)) (bytes_drop w s y) in
          let e = first n s in
          record {
            bytes = ap (records_bytes bytes) e ∙ ap (λ (l : List ℕ). bytes (at s 0) ++ l) k.bytes ∙ p.0;
            fitting = subst (AllHold Holds) (sym e) (p.1, k.fitting);
          }

-- Texts written one after the other are their join, and a text that has room stands whole between what was there.
use Rattle.std.specs.Prelude.{◌≡◌, take}
use Rattle.std.proofs.Math.Path.{refl, ap}
use Rattle.std.proofs.Common.{sym, ◌∙◌, subst, length-append}
use mathlib.Core.List.{List, [], ◌∷◌, ◌++◌}
use Prim.Native.Nat.{ℕ, zero, suc, ◌+◌, ◌≤◌, ◌<◌, min}
use native.Mathlib.Omega.{arith}
use Rattle.std.proofs.Math.ListN.{length, drop, set}
use Rattle.std.proofs.Math.Seq.{take-nil, drop-nil}
use Rattle.lent.specs.rules.Writing.{written, offset_after, Wrote}

module _ {A : Type 0} where
  -- the slice's length stays
  length_written : (old : List A) (at : ℕ) (t : List A) → length (written old at t) ≡ length old
  unfolding written
  length_written [] at t = refl
  length_written (x ∷ old) (suc at) t = ap suc (length_written old at t)
  length_written (x ∷ old) zero [] = refl
  length_written (x ∷ old) zero (b ∷ t) = ap suc (length_written old zero t)

  joined : (old : List A) (at : ℕ) (t u : List A) (n : ℕ) → n ≡ offset_after old at t
      → written (written old at t) n u ≡ written old at (t ++ u)
  unfolding written
  joined [] at t u n e = refl
  joined (x ∷ old) (suc at) t u zero e = absurd (omega arith)
  joined (x ∷ old) (suc at) t u (suc n) e = ap (λ (l : List A). x ∷ l) (joined old at t u n (omega arith))
  joined (x ∷ old) zero [] u zero e = refl
  joined (x ∷ old) zero [] u (suc n) e = absurd (omega arith)
  joined (x ∷ old) zero (b ∷ t) u zero e = absurd (omega arith)
  joined (x ∷ old) zero (b ∷ t) u (suc n) e = ap (λ (l : List A). b ∷ l) (joined old zero t u n (omega arith))

  pub after : {old t o u p : List A} {at n m : ℕ} → Wrote old at t o n → Wrote o n u p m → Wrote old at (t ++ u) p m
  after {old} {t} {o} {u} {p} {at} {n} {m} a b =
      record {
        text = b.text ∙ ap (λ (l : List A). written l n u) a.text ∙ joined old at t u n a.offset;
        offset = omega (arith, a.offset, b.offset, length-append t u, ap length a.text ∙ length_written old at t);
      }

  -- the same text, said otherwise
  pub same : {old t u o : List A} {at n : ℕ} → t ≡ u → Wrote old at t o n → Wrote old at u o n
  same {old} {t} {u} {o} {at} {n} e a = subst (λ (x : List A). Wrote old at x o n) e a

  -- nothing written
  pub nothing : (old : List A) (at n : ℕ) → n ≡ min at (length old) → Wrote old at [] old n
  unfolding written
  nothing old at n e = record { text = none old at; offset = omega arith }
    where
      none : (l : List A) (k : ℕ) → l ≡ written l k []
      none [] k = refl
      none (x ∷ l) (suc k) = ap (λ (m : List A). x ∷ m) (none l k)
      none (x ∷ l) zero = refl

  -- one element written, and one that finds no place
  pub single : (old : List A) (at : ℕ) (b : A) → at < length old → Wrote old at (b ∷ []) (set old at b) (at + 1)
  unfolding written
  single old at b h = record { text = one old at h; offset = omega arith }
    where
      one : (l : List A) (k : ℕ) → k < length l → set l k b ≡ written l k (b ∷ [])
      one [] k h = absurd (omega arith)
      one (x ∷ l) (suc k) h = ap (λ (m : List A). x ∷ m) (one l k (omega arith))
      one (x ∷ []) zero h = refl
      one (x ∷ y ∷ l) zero h = refl

  pub beyond : (old : List A) (at : ℕ) (t : List A) → length old ≤ at → Wrote old at t old (length old)
  unfolding written
  beyond old at t h = record { text = stays old at h; offset = omega arith }
    where
      stays : (l : List A) (k : ℕ) → length l ≤ k → l ≡ written l k t
      stays [] k h = refl
      stays (x ∷ l) (suc k) h = ap (λ (m : List A). x ∷ m) (stays l k (omega arith))
      stays (x ∷ l) zero h = absurd (omega arith)

  pub length_kept : {old t new : List A} {at n : ℕ} → Wrote old at t new n → length new ≡ length old
  length_kept {old} {t} {new} {at} w = ap length w.text ∙ length_written old at t

  -- the offset after a text lies in the slice
  pub inside : {old t new : List A} {at n : ℕ} → Wrote old at t new n → n ≤ length new
  inside w = omega (arith, w.offset, length_kept w)

  -- a text that has room
  pub whole : (old : List A) (at : ℕ) (t : List A) → at + length t ≤ length old
      → written old at t ≡ take at old ++ t ++ drop (at + length t) old
  unfolding written
  whole [] at [] h = simp (take-nil, drop-nil)
  whole [] at (b ∷ t) h = absurd (omega arith)
  whole (x ∷ old) (suc at) t h =
      ap (λ (l : List A). x ∷ l) (whole old at t (omega arith))
      ∙ ap (λ (n : ℕ). x ∷ (take at old ++ t ++ drop n (x ∷ old)))
      (let e : suc (at + length t) ≡ suc at + length t = omega arith in e)
  whole (x ∷ old) zero [] h = refl
  whole (x ∷ old) zero (b ∷ t) h =
      ap (λ (l : List A). b ∷ l) (whole old zero t (omega arith))
      ∙ ap (λ (n : ℕ). b ∷ (t ++ drop n (x ∷ old))) (let e : suc (0 + length t) ≡ 0 + suc (length t) = omega arith in e)

  -- a writer's promise fixes what it leaves and the offset that it answers
  pub one_written : {old t new new' : List A} {at next next' : ℕ} → Wrote old at t new next → Wrote old at t new' next'
      → (new ≡ new') × (next ≡ next')
  one_written w v = (w.text ∙ sym v.text, w.offset ∙ sym v.offset)

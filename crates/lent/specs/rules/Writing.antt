-- A text written over the elements of a lent slice from an offset on. What finds no place there is left out.
use Rattle.std.specs.Prelude.{ℕ, zero, suc, ◌+◌, min, ◌≡◌, List, [], ◌∷◌, length}

unfoldable pub written : {A : Type 0} → List A → ℕ → List A → List A
written [] at t = []
written (x ∷ old) (suc at) t = x ∷ written old at t
written (x ∷ old) zero [] = x ∷ old
written (x ∷ old) zero (b ∷ t) = b ∷ written old zero t

-- the offset after the text, or the slice's end where that comes first
abbrev pub offset_after : {A : Type 0} → List A → ℕ → List A → ℕ
offset_after old at t = min (at + length t) (length old)

-- what a function that writes t leaves, and the offset that it answers
pub record Wrote {A : Type 0} (old : List A) (at : ℕ) (t new : List A) (next : ℕ) : Type 0 where
  pub text : new ≡ written old at t
  pub offset : next ≡ offset_after old at t

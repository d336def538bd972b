-- Records and their bytes where one is changed, where they are zeros, and where others were written before them.
use Rattle.std.specs.Prelude.{◌≡◌, length, drop, set, replicate}
use Rattle.std.proofs.Math.Path.{refl, ap}
use Rattle.std.proofs.Common.{sym, ◌∙◌, le_of_suc-le-suc}
use mathlib.Core.List.{List, [], ◌∷◌, ◌++◌}
use Prim.Native.Nat.{ℕ, zero, suc, ◌+◌, ◌*◌, ◌/◌, ◌≤◌, ◌<◌}
use native.Mathlib.Omega.{arith}
use Rattle.std.proofs.lemmas.List.{replicate-append-replicate}
use Rattle.lent.specs.rules.Writing.{written}
use Rattle.list.specs.rules.Record.{width, star_at, star_bytes, word_bytes}
use Rattle.list.specs.rules.Stars.{count_of, nth, nought, list_bytes}
use Rattle.list.specs.laws.Record.{length_star, star_drop}
use Rattle.list.specs.laws.Stars.{nth_is}
use Rattle.list.specs.declared.Star.{Star}

module _ {A : Type 0} where
  -- a text of the slice's length is all that stands there afterwards
  pub over : (s t : List A) → length t ≡ length s → written s 0 t ≡ t
  unfolding written
  over [] [] e = refl
  over [] (b ∷ t) e = absurd (omega arith)
  over (x ∷ s) [] e = absurd (omega arith)
  over (x ∷ s) (b ∷ t) e = ap (λ (l : List A). b ∷ l) (over s t (omega arith))

  -- what lies behind a text stands
  behind : (s t : List A) (k : ℕ) → length t ≤ k → drop k (written s 0 t) ≡ drop k s
  unfolding written
  behind [] t k h = refl
  behind (x ∷ s) [] k h = refl
  behind (x ∷ s) (b ∷ t) zero h = absurd (omega arith)
  behind (x ∷ s) (b ∷ t) (suc k) h = behind s t k (omega arith)

  front : (a b c : List A) → length b ≡ length a → written (a ++ c) 0 b ≡ b ++ c
  unfolding written
  front [] [] [] e = refl
  front [] [] (x ∷ c) e = refl
  front [] (y ∷ b) c e = absurd (omega arith)
  front (x ∷ a) [] c e = absurd (omega arith)
  front (x ∷ a) (y ∷ b) c e = ap (λ (l : List A). y ∷ l) (front a b c (omega arith))

  further : (a c t : List A) (k n : ℕ) → n ≡ length a + k → written (a ++ c) n t ≡ a ++ written c k t
  unfolding written
  further [] c t k n e = ap (λ (m : ℕ). written c m t) (let q : n ≡ k = omega arith in q)
  further (x ∷ a) c t k zero e = absurd (omega arith)
  further (x ∷ a) c t k (suc n) e = ap (λ (l : List A). x ∷ l) (further a c t k n (omega arith))

-- one record changed is its bytes written over
pub bytes_set : (rs : List Star) (i : ℕ) (r : Star) → i < length rs
    → list_bytes (set rs i r) ≡ written (list_bytes rs) (i * width) (star_bytes r)
bytes_set [] i r h = absurd (omega arith)
bytes_set (q ∷ rs) zero r h =
    sym (front (star_bytes q) (star_bytes r) (list_bytes rs) (length_star r ∙ sym (length_star q)))
    ∙ ap (λ (n : ℕ). written (star_bytes q ++ list_bytes rs) n (star_bytes r)) (let e : 0 ≡ 0 * width = omega arith in e)
bytes_set (q ∷ rs) (suc i) r h =
    ap (λ (l : List ℕ). star_bytes q ++ l) (bytes_set rs i r (le_of_suc-le-suc h))
    ∙ sym (further (star_bytes q) (list_bytes rs) (star_bytes r) (i * width) (suc i * width) (omega (arith, length_star q)))

-- empty places are zero bytes
pub nought_bytes : star_bytes nought ≡ replicate width 0
unfolding star_bytes word_bytes
nought_bytes = refl

pub empty_bytes : (m : ℕ) → list_bytes (replicate m nought) ≡ replicate (width * m) 0
empty_bytes zero = ap (λ (n : ℕ). replicate n 0) (let e : 0 ≡ width * 0 = omega arith in e)
empty_bytes (suc m) =
    (λ i. nought_bytes i ++ empty_bytes m i)
    ∙ replicate-append-replicate width (width * m) 0
    ∙ ap (λ (n : ℕ). replicate n 0) (let e : width + width * m ≡ width * suc m = omega arith in e)

count_same : (s t : List ℕ) → length s ≡ length t → count_of s ≡ count_of t
unfolding count_of
count_same s t e = ap (λ (n : ℕ). n / width) e

-- a record behind what was written is still there
pub nth_behind : (s t cur : List ℕ) (i : ℕ) → cur ≡ written s 0 t → length cur ≡ length s → length t ≤ i * width → i < count_of s
    → nth cur i ≡ nth s i
nth_behind s t cur i e long h k =
    let z : i * width + 0 ≡ i * width = omega arith in
    nth_is cur i (omega (arith, count_same cur s long))
    ∙ ap (star_at cur) (sym z)
    ∙ sym (star_drop (i * width) 0 cur)
    ∙ ap (λ (l : List ℕ). star_at l 0) (ap (drop (i * width)) e ∙ behind s t (i * width) h)
    ∙ star_drop (i * width) 0 s
    ∙ ap (star_at s) z
    ∙ sym (nth_is s i k)

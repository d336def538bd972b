-- A record and its bytes say the same.
use Rattle.std.specs.Prelude.{◌≡◌, refl, ℕ, zero, suc, ◌+◌, ◌*◌, ◌/◌, ◌%◌, ◌≤◌, ◌<◌, ℤ, length}
use Rattle.std.proofs.Math.Path.{sym, ap}
use Rattle.std.proofs.Common.{◌∙◌, add_assoc, get_or-drop, drop-cons, add-one}
use mathlib.Core.List.{List, [], ◌∷◌, ◌++◌, append_assoc}
use native.Mathlib.Omega.{arith}
use Rattle.std.proofs.Math.ListN.{drop, get_or}
use Rattle.signed.specs.rules.Signed.{word_of, signed_of, HasWord}
use Rattle.signed.specs.laws.Signed.{signed_word, word_signed, word_small, has_word}
use Rattle.list.specs.rules.Record.{width, word_at, star_at, word_bytes, words_bytes, star_bytes, Fitting}
use Rattle.list.specs.rules.Stars.{Bytes}
use Rattle.list.specs.declared.Star.{Star}

pub length_star : (r : Star) → length (star_bytes r) ≡ width
unfolding star_bytes word_bytes
length_star r = refl

-- a word written is read back
module _ (n : ℕ) (h : n < 4294967296) where
  pub word_sum : n % 256 + 256 * (n / 256 % 256) + 65536 * (n / 65536 % 256) + 16777216 * (n / 16777216) ≡ n
  word_sum = omega arith

pub signed_sum : (z : ℤ) → HasWord z
    → signed_of (word_of z % 256 + 256 * (word_of z / 256 % 256) + 65536 * (word_of z / 65536 % 256) + 16777216 * (word_of z / 16777216)) ≡ z
signed_sum z h = ap signed_of (word_sum (word_of z) (word_small z h)) ∙ signed_word z h

-- a record written is read back
pub star_back : (r : Star) (rest : List ℕ) → Fitting r → star_at (star_bytes r ++ rest) 0 ≡ r
unfolding star_at star_bytes word_at word_bytes
star_back r rest f =
    let n = word_sum r.number f.number in
    let a = word_sum r.asc f.asc in
    let d = signed_sum r.dec f.dec in
    let u = signed_sum r.asc_rate f.asc_rate in
    let v = signed_sum r.dec_rate f.dec_rate in
    λ i. record { number = n i; asc = a i; dec = d i; asc_rate = u i; dec_rate = v i }

second : (b c d : ℕ) → b < 256 → (b + 256 * c + 65536 * d) % 256 ≡ b
second b c d h = omega arith

third : (c d : ℕ) → c < 256 → (c + 256 * d) % 256 ≡ c
third c d h = omega arith

-- four bytes are the bytes of their word
module _ (a b c d : ℕ) (ha : a < 256) (hb : b < 256) (hc : c < 256) (hd : d < 256) where
  abbrev four : ℕ
  four = a + 256 * b + 65536 * c + 16777216 * d

  four_small : four < 4294967296
  four_small = omega arith

  four_back : (rest : List ℕ) → word_bytes four ++ rest ≡ a ∷ b ∷ c ∷ d ∷ rest
  unfolding word_bytes
  four_back rest =
      let p : four % 256 ≡ a = omega arith in
      let v : four / 256 ≡ b + 256 * c + 65536 * d = omega arith in
      let u : four / 65536 ≡ c + 256 * d = omega arith in
      let q = ap (λ (n : ℕ). n % 256) v ∙ second b c d hb in
      let r = ap (λ (n : ℕ). n % 256) u ∙ third c d hc in
      let s : four / 16777216 ≡ d = omega arith in
      λ i. p i ∷ q i ∷ r i ∷ s i ∷ rest

-- words that stand in bytes
module _ (s : List ℕ) (y : Bytes s) where
  pub small : (at : ℕ) → word_at s at < 4294967296
  unfolding word_at
  small at =
      four_small (get_or s at 0) (get_or s (at + 1) 0) (get_or s (at + 2) 0) (get_or s (at + 3) 0)
      (y at) (y (at + 1)) (y (at + 2)) (y (at + 3))

  next : (at k : ℕ) → at + k < length s → drop (at + k) s ≡ get_or s (at + k) 0 ∷ drop (at + (k + 1)) s
  next at k h =
      drop-cons s (at + k) 0 h
      ∙ ap (λ (n : ℕ). get_or s (at + k) 0 ∷ drop n s) (let q : suc (at + k) ≡ at + (k + 1) = omega arith in q)

  word_here : (at : ℕ) → at + 4 ≤ length s → word_bytes (word_at s at) ++ drop (at + 4) s ≡ drop at s
  unfolding word_at
  word_here at h =
      four_back (get_or s at 0) (get_or s (at + 1) 0) (get_or s (at + 2) 0) (get_or s (at + 3) 0)
      (y at) (y (at + 1)) (y (at + 2)) (y (at + 3)) (drop (at + 4) s)
      ∙ sym
      (drop-cons s at 0 (omega arith)
      ∙ ap (λ (l : List ℕ). get_or s at 0 ∷ l)
      (ap (λ (n : ℕ). drop n s) (sym (add-one at))
      ∙ next at 1 (omega arith)
      ∙ ap (λ (l : List ℕ). get_or s (at + 1) 0 ∷ l)
      (next at 2 (omega arith)
      ∙ ap (λ (l : List ℕ). get_or s (at + 2) 0 ∷ l) (next at 3 (omega arith)))))

  abbrev pub words_from : ℕ → ℕ → List ℕ
  words_from zero at = []
  words_from (suc k) at = word_at s at ∷ words_from k (at + 4)

  pub words_here : (k at : ℕ) → at + 4 * k ≤ length s → words_bytes (words_from k at) ++ drop (at + 4 * k) s ≡ drop at s
  words_here zero at h = ap (λ (n : ℕ). drop n s) (let q : at + 4 * 0 ≡ at = omega arith in q)
  words_here (suc k) at h =
      append_assoc (word_bytes (word_at s at)) (words_bytes (words_from k (at + 4))) (drop (at + 4 * suc k) s)
      ∙ ap (λ (l : List ℕ). word_bytes (word_at s at) ++ l)
      (ap (λ (n : ℕ). words_bytes (words_from k (at + 4)) ++ drop n s) (let q : at + 4 * suc k ≡ at + 4 + 4 * k = omega arith in q)
      ∙ words_here k (at + 4) (omega arith))
      ∙ word_here at (omega arith)

  pub star_fits : (at : ℕ) → Fitting (star_at s at)
  unfolding star_at
  star_fits at =
      record {
        number = small at;
        asc = small (at + 4);
        dec = has_word (word_at s (at + 8)) (small (at + 8));
        asc_rate = has_word (word_at s (at + 12)) (small (at + 12));
        dec_rate = has_word (word_at s (at + 16)) (small (at + 16));
      }

  -- a record read is written back
  pub record_here : width ≤ length s → star_bytes (star_at s 0) ++ drop width s ≡ s
  unfolding star_at star_bytes
  record_here h =
      let w : (k : ℕ) → word_of (signed_of (word_at s k)) ≡ word_at s k = λ (k : ℕ). word_signed (word_at s k) (small k) in
      (λ i. words_bytes (word_at s 0 ∷ word_at s 4 ∷ w 8 i ∷ w 12 i ∷ w 16 i ∷ []) ++ drop width s) ∙ words_here 5 0 h

-- a record further on is one of what is left
pub word_drop : (k at : ℕ) (s : List ℕ) → word_at (drop k s) at ≡ word_at s (k + at)
unfolding word_at
word_drop k at s =
    rw (
      get_or-drop k s at 0,
      get_or-drop k s (at + 1) 0,
      get_or-drop k s (at + 2) 0,
      get_or-drop k s (at + 3) 0,
      ← add_assoc k at 1,
      ← add_assoc k at 2,
      ← add_assoc k at 3,
    )

pub word_further : (k at j : ℕ) (s : List ℕ) → word_at (drop k s) (at + j) ≡ word_at s (k + at + j)
word_further k at j s = word_drop k (at + j) s ∙ ap (word_at s) (sym (add_assoc k at j))

pub star_drop : (k at : ℕ) (s : List ℕ) → star_at (drop k s) at ≡ star_at s (k + at)
unfolding star_at
star_drop k at s =
    λ i.
    record {
      number = word_drop k at s i;
      asc = word_further k at 4 s i;
      dec = signed_of (word_further k at 8 s i);
      asc_rate = signed_of (word_further k at 12 s i);
      dec_rate = signed_of (word_further k at 16 s i);
    }

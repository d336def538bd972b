-- A text is a word where it is equal to it, and only there.
use Rattle.std.specs.Prelude.{ℕ, suc, ◌+◌, ◌<◌, ◌≡◌, refl, Bool, true, false, List, [], ◌∷◌, eqb, length, get_or, ◌≢◌}
use Rattle.std.proofs.Common.{sym, ap, ◌∙◌, arith, eq-eqb, eqb-true}
use Rattle.std.proofs.lemmas.Bool.{eqb-false}
use Rattle.lent.specs.laws.Flags.{both_hold}
use Rattle.text_word.specs.rules.Word.{is_word}

pub is_itself : (word : List ℕ) → is_word word word ≡ true
is_itself [] = refl
is_itself (x ∷ word) = rw (eq-eqb x x refl, is_itself word)

pub only_itself : (text word : List ℕ) → is_word text word ≡ true → text ≡ word
only_itself [] [] e = refl
only_itself (x ∷ text) (y ∷ word) e =
    let h = both_hold (eqb x y) (is_word text word) e in
    λ j. eqb-true x y h.0 j ∷ only_itself text word h.1 j
only_itself [] (y ∷ word) e = cc
only_itself (x ∷ text) [] e = cc

-- another length, and another byte
pub other_length : (text word : List ℕ) → length text ≢ length word → is_word text word ≡ false
other_length text word h = by_case (is_word text word) refl
  where
    by_case : (b : Bool) → is_word text word ≡ b → is_word text word ≡ false
    by_case true e = absurd (h (ap length (only_itself text word e)))
    by_case false e = e

pub other_byte : (text word : List ℕ) (i : ℕ) → get_or text i 0 ≢ get_or word i 0 → is_word text word ≡ false
other_byte text word i h = by_case (is_word text word) refl
  where
    by_case : (b : Bool) → is_word text word ≡ b → is_word text word ≡ false
    by_case true e = absurd (h (ap (λ (l : List ℕ). get_or l i 0) (only_itself text word e)))
    by_case false e = e

-- the bytes below i, and byte i
pub one_more : (text word : List ℕ) (i : ℕ) → ((k : ℕ) → k < i → get_or text k 0 ≡ get_or word k 0) → get_or text i 0 ≡ get_or word i 0
    → (k : ℕ) → k < i + 1 → get_or text k 0 ≡ get_or word k 0
one_more text word i h e k below = by_case (eqb k i) refl
  where
    by_case : (b : Bool) → eqb k i ≡ b → get_or text k 0 ≡ get_or word k 0
    by_case true same =
        let at = eqb-true k i same in
        ap (λ (n : ℕ). get_or text n 0) at ∙ e ∙ ap (λ (n : ℕ). get_or word n 0) (sym at)
    by_case false other = h k (omega (arith, eqb-false k i other))

-- every byte, of as many
pub every_byte : (text word : List ℕ) → length text ≡ length word
    → ((i : ℕ) → i < length word → get_or text i 0 ≡ get_or word i 0) → is_word text word ≡ true
every_byte [] [] e h = refl
every_byte (x ∷ text) (y ∷ word) e h =
    rw (eq-eqb x y (h 0 (omega arith)), every_byte text word (omega (arith, e)) (λ i k. h (suc i) (omega arith)))
every_byte [] (y ∷ word) e h = absurd (omega (arith, e))
every_byte (x ∷ text) [] e h = absurd (omega (arith, e))

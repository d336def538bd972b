-- The digits that `io` spells are those of the rules.
use mathlib.Core.Path.{◌≡◌, refl, sym, ap, ◌∙◌, subst}
use mathlib.Core.Bool.{Bool, true, false, cond}
use mathlib.Core.List.{List, [], ◌∷◌, ◌++◌}
use Prim.Native.Nat.{ℕ, zero, suc, ◌+◌, ◌-◌, ◌/◌, ◌%◌, ◌^◌, ◌≤◌, ◌<◌}
use native.Mathlib.Nat.{pow-suc, pow-le-pow_right}
use native.Mathlib.Omega.{arith}
use lib.Dec.{leb}
use borrow.Author.Tests.{lt-ltb, le-ltb, leb-true, leb-false}
use Rattle.io.specs.Digits.{last_digits, hex_digit_ascii, IsDigitCount}
use Rattle.text_number.specs.rules.Bytes.{digit0, letter_a}
use Rattle.text_number.specs.rules.Number.{decimal_in, decimal_text, hex_in, hex16}

digit : (d : ℕ) → d < 10 → hex_digit_ascii d ≡ digit0 + d
digit d h = ap (λ (b : Bool). cond b (digit0 + d) (letter_a - 10 + d)) (lt-ltb d 10 h)

-- one digit, and more than one
one : (f n : ℕ) → n < 10 → last_digits 10 1 n ≡ decimal_in (suc f) n
unfolding decimal_in
one f n h =
    ap (λ (d : ℕ). hex_digit_ascii d ∷ []) (let e : n % 10 ≡ n = omega arith in e)
    ∙ ap (λ (d : ℕ). d ∷ []) (digit n h)
    ∙ ap (λ (b : Bool). cond b ((digit0 + n) ∷ []) (decimal_in f (n / 10) ++ ((digit0 + n % 10) ∷ []))) (sym (lt-ltb n 10 h))

more : (f k n : ℕ) → 10 ≤ n → last_digits 10 k (n / 10) ≡ decimal_in f (n / 10) → last_digits 10 (suc k) n ≡ decimal_in (suc f) n
unfolding decimal_in
more f k n h e =
    ap (λ (l : List ℕ). l ++ (hex_digit_ascii (n % 10) ∷ [])) e
    ∙ ap (λ (d : ℕ). decimal_in f (n / 10) ++ (d ∷ [])) (digit (n % 10) (omega arith))
    ∙ ap (λ (b : Bool). cond b ((digit0 + n) ∷ []) (decimal_in f (n / 10) ++ ((digit0 + n % 10) ∷ []))) (sym (le-ltb n 10 h))

-- the fewest digits that hold n
spelt : (f k n : ℕ) → k < f → n < 10 ^ suc k → (0 < k → 10 ^ k ≤ n) → last_digits 10 (suc k) n ≡ decimal_in f n
spelt zero k n h a b = absurd (omega arith)
spelt (suc f) zero n h a b = one f n a
spelt (suc f) (suc k) n h a b =
    let p : 1 ≤ 10 ^ k = pow-le-pow_right {n = 10} (omega arith) {i = 0} {j = k} (omega arith) in
    let low : 10 ^ suc k ≤ n = b (omega arith) in
    more f (suc k) n (omega (arith, pow-suc 10 k)) (spelt f k (n / 10) (omega arith) (omega (arith, pow-suc 10 (suc k))) (λ _. omega (arith, pow-suc 10 k)))

-- digits for which there is room
fewer : (b least k n r : ℕ) → 0 < b → least ≤ k → n < b ^ k → IsDigitCount b least n r → r ≤ k
fewer b least k n r p h a f = go (leb r k) refl
  where
    go : (t : Bool) → leb r k ≡ t → r ≤ k
    go true e = leb-true r k e
    go false e =
        let past : k < r = leb-false r k e in
        absurd (omega (arith, f.2 (omega arith), pow-le-pow_right {n = b} p {i = k} {j = r - 1} (omega arith)))

pub decimal_spelt : (n r : ℕ) → n < 18446744073709551616 → IsDigitCount 10 1 n r → last_digits 10 r n ≡ decimal_text n
decimal_spelt n zero h f = absurd (omega (arith, f.0))
decimal_spelt n (suc k) h f =
    spelt 20 k n (omega (arith, fewer 10 1 20 n (suc k) (omega arith) (omega arith) (omega arith) f)) f.1
    (λ (q : 0 < k). subst (λ (j : ℕ). 10 ^ j ≤ n) (let e : suc k - 1 ≡ k = omega arith in e) (f.2 (omega arith)))

hex_in_lem : (k n : ℕ) → last_digits 16 k n ≡ hex_in k n
unfolding hex_in
hex_in_lem zero n = refl
hex_in_lem (suc k) n = ap (λ (l : List ℕ). l ++ (hex_digit_ascii (n % 16) ∷ [])) (hex_in_lem k (n / 16))

pub hex_spelt : (n r : ℕ) → n < 18446744073709551616 → IsDigitCount 16 16 n r → last_digits 16 r n ≡ hex16 n
hex_spelt n r h f =
    ap (λ (k : ℕ). last_digits 16 k n) (let e : r ≡ 16 = omega (arith, f.0, fewer 16 16 16 n r (omega arith) (omega arith) (omega arith) f) in e) ∙ hex_in_lem 16 n

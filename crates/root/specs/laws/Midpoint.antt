-- No double a·2^j, a below 2^53, lies nearer to a root than q·2^e, q of 53 digits, if the root lies within half of 2^e of that: all on
-- plain numbers, w the square of twice the root.
use Rattle.std.specs.Prelude.{◌≡◌, ℕ, suc, ◌+◌, ◌-◌, ◌*◌, ◌^◌, ◌<◌, ◌≤◌, ◌⊎◌}
use Rattle.std.proofs.Common.{sym, ap, ◌∙◌, inl, inr, le_trans, le_of_eq, le_of_lt, lt_of_lt_of_le, lt_of_le_of_lt, eq-or-lt_of_le, add-mul, mul_assoc, mul-le-mul, mul-le-mul_left, mul-le-mul_right, mul-lt-mul_of_pos_right, lt_of_mul-lt-mul_right, arith, pow-add, pow_pos, pow_mono}
use Rattle.std.proofs.Math.Nat.{pow-succ'}
use Rattle.std.specs.Float.Ieee.Digits.{back}
use Rattle.double.specs.laws.Numbers.{less_or_not, square_lt}

-- with more zeros at its end the other is a multiple of 2^e
pub multiple : (a j e : ℕ) → e ≤ j → a * 2 ^ j ≡ a * 2 ^ (j - e) * 2 ^ e
multiple a j e h = rw (mul_assoc a (2 ^ (j - e)) (2 ^ e), ← pow-add 2 (j - e) e, back j e h)

-- with fewer it is below every number of 53 digits times 2^e
pub short : (a j e : ℕ) → a < 2 ^ 53 → j < e → a * 2 ^ j < 2 ^ 52 * 2 ^ e
short a j e h l =
    lt_of_lt_of_le (mul-lt-mul_of_pos_right h (pow_pos j))
    (le_trans (le_of_eq (mul_assoc (2 ^ 52) 2 (2 ^ j) ∙ ap (λ (x : ℕ). 2 ^ 52 * x) (sym (pow-succ' 2 j)))) (mul-le-mul_left (2 ^ 52) (pow_mono l)))

module _ (w q e : ℕ) (least : 2 ^ 52 ≤ q) where
  pub near_above : (a j : ℕ) → w < (2 * q + 1) * 2 ^ e * ((2 * q + 1) * 2 ^ e) → a < 2 ^ 53 → q * 2 ^ e < a * 2 ^ j
      → w < (q * 2 ^ e + a * 2 ^ j) * (q * 2 ^ e + a * 2 ^ j)
  near_above a j h f l = go (less_or_not j e)
    where
      no_room : (x y z : ℕ) → x < y → y < z → z ≤ x → ⊥
      no_room x y z a b c = omega arith

      next : (q b p : ℕ) → suc q * p ≤ b * p → (2 * q + 1) * p ≤ q * p + b * p
      next q b p h = omega arith

      go : (j < e) ⊎ (e ≤ j) → w < (q * 2 ^ e + a * 2 ^ j) * (q * 2 ^ e + a * 2 ^ j)
      go (inl s) = absurd (no_room (q * 2 ^ e) (a * 2 ^ j) (2 ^ 52 * 2 ^ e) l (short a j e f s) (mul-le-mul_right (2 ^ e) least))
      go (inr g) =
          let b = a * 2 ^ (j - e) in
          let m : a * 2 ^ j ≡ b * 2 ^ e = multiple a j e g in
          let t : q < b = lt_of_mul-lt-mul_right (2 ^ e) (rw m at l) in
          let u : (2 * q + 1) * 2 ^ e ≤ q * 2 ^ e + a * 2 ^ j = rw m (next q b (2 ^ e) (mul-le-mul_right (2 ^ e) t)) in
          lt_of_lt_of_le h (mul-le-mul u u)

  pub near_below : (a j : ℕ) → (2 * q - 1) * 2 ^ e * ((2 * q - 1) * 2 ^ e) < w → 2 ^ 53 * 2 ^ e * (2 ^ 53 * 2 ^ e) ≤ w
      → a < 2 ^ 53 → a * 2 ^ j < q * 2 ^ e
      → (q * 2 ^ e + a * 2 ^ j) * (q * 2 ^ e + a * 2 ^ j) < w
  near_below a j h k f l = go (less_or_not j e)
    where
      before : (c : ℕ) → c < q → q * 2 ^ e + c * 2 ^ e ≤ (2 * q - 1) * 2 ^ e
      before c t = le_trans (le_of_eq (sym (add-mul q c (2 ^ e)))) (mul-le-mul_right (2 ^ e) (omega arith))

      from : (y c : ℕ) → y ≤ c * 2 ^ e → c < q → (q * 2 ^ e + y) * (q * 2 ^ e + y) < w
      from y c g t =
          let u : q * 2 ^ e + y ≤ (2 * q - 1) * 2 ^ e = omega (arith, before c t) in
          lt_of_le_of_lt (mul-le-mul u u) h

      two_halves : (x y p : ℕ) → x ≡ 2 ^ 52 * p → y < 2 ^ 52 * p → x + y < 2 ^ 53 * p
      two_halves x y p a b = omega arith

      at_least : a * 2 ^ j < 2 ^ 52 * 2 ^ e → (2 ^ 52 ≡ q) ⊎ (2 ^ 52 < q) → (q * 2 ^ e + a * 2 ^ j) * (q * 2 ^ e + a * 2 ^ j) < w
      at_least s (inl t) =
          lt_of_lt_of_le
          (square_lt _ _ (two_halves (q * 2 ^ e) (a * 2 ^ j) (2 ^ e) (ap (λ (x : ℕ). x * 2 ^ e) (sym t)) s)) k
      at_least s (inr t) = from (a * 2 ^ j) (2 ^ 52) (le_of_lt s) t

      go : (j < e) ⊎ (e ≤ j) → (q * 2 ^ e + a * 2 ^ j) * (q * 2 ^ e + a * 2 ^ j) < w
      go (inl s) = at_least (short a j e f s) (eq-or-lt_of_le least)
      go (inr g) =
          let m : a * 2 ^ j ≡ a * 2 ^ (j - e) * 2 ^ e = multiple a j e g in
          from (a * 2 ^ j) (a * 2 ^ (j - e)) (le_of_eq m) (lt_of_mul-lt-mul_right (2 ^ e) (rw m at l))

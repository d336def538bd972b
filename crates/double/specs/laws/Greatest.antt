-- Every finite double lies from the negated greatest to the greatest. A `Float` need not be a double: `fits binary64 x` says that x is
-- one, and holds of `bits n` for every n.
use Rattle.std.specs.Prelude.{◌≡◌, ℕ, zero, suc, ◌+◌, ◌-◌, ◌*◌, ◌%◌, ◌^◌, ◌<◌, ◌≤◌, Bool, true, false, not, ◌&&◌, T, leb, ℤ, pos, negsuc, nat_eq, nat_le, nat_lt, Float}
use Rattle.std.proofs.Common.{sym, ap, ◌∙◌, subst, le_of_lt, mul_assoc, mul-one, mul-le-mul, mul-le-mul_right, le-mul_of_pos_right, lt_of_mul-lt-mul_right, le_trans, arith, leb→le, ltb→lt, pow-add, pow_pos, pow_mono}
use Rattle.std.proofs.Math.Dec.{nleb→lt}
use Rattle.std.proofs.Math.Pow.{le_ones}
use Rattle.std.specs.Float.{nan, inf, fin, binary64}
use Rattle.std.specs.Float.Ieee.{up, down, neg, fits, of_bits}
use Rattle.std.specs.Float.Ieee.Fits.{and_l, and_r}
use Rattle.std.specs.Float.Ieee.Digits.{back}
use Rattle.double.specs.rules.Sign.{size, is_finite}
use Rattle.double.specs.rules.Order.{◌≼◌, Finite, Between}
use Rattle.double.specs.laws.Order.{below→le}
use Rattle.double.specs.laws.Between.{size→between}
use Rattle.double.specs.notions.Greatest.{greatest}

-- ---- m·2^e below 2^(p + c), where m has at most p digits, is at most (2^p − 1)·2^c

at_most : (p c m : ℕ) (e : ℤ) → m < 2 ^ p → m * up e < 2 ^ (p + c) * down e → m * up e ≤ (2 ^ p - 1) * 2 ^ c * down e
at_most p c m (negsuc k) short small =
    subst (λ (x : ℕ). x ≤ (2 ^ p - 1) * 2 ^ c * 2 ^ suc k) (sym (mul-one m))
    (le_trans (le_ones p short) (le_trans (le-mul_of_pos_right (2 ^ p - 1) (pow_pos c)) (le-mul_of_pos_right ((2 ^ p - 1) * 2 ^ c) (pow_pos (suc k)))))
at_most p c m (pos k) short small =
    subst (λ (x : ℕ). m * 2 ^ k ≤ x) (sym (mul-one ((2 ^ p - 1) * 2 ^ c))) (by_case (nat_le k c) (leb→le k c) (nleb→lt k c))
  where
    -- where k is above c, m·2^(k − c) has at most p digits too
    beyond : m * 2 ^ k ≡ m * 2 ^ (k - c) * 2 ^ c → m * 2 ^ k ≤ (2 ^ p - 1) * 2 ^ c
    beyond q =
        subst (λ (x : ℕ). x ≤ (2 ^ p - 1) * 2 ^ c) (sym q)
        (mul-le-mul_right (2 ^ c)
        (le_ones p (lt_of_mul-lt-mul_right (2 ^ c)
        (subst (λ (x : ℕ). x < 2 ^ p * 2 ^ c) q (subst (λ (x : ℕ). m * 2 ^ k < x) (mul-one (2 ^ (p + c)) ∙ pow-add 2 p c) small)))))

    by_case : (b : Bool) → (T b → k ≤ c) → (T (not b) → c < k) → m * 2 ^ k ≤ (2 ^ p - 1) * 2 ^ c
    by_case true h l = mul-le-mul (le_ones p short) (pow_mono (h tt))
    by_case false h l =
        beyond
        (ap (λ (x : ℕ). m * 2 ^ x) (sym (back k c (le_of_lt (l tt)))) ∙ ap (λ (x : ℕ). m * x) (pow-add 2 (k - c) c) ∙ sym (mul_assoc m (2 ^ (k - c)) (2 ^ c)))

-- ---- so of a finite double

fits_at_most : (s : Bool) (m : ℕ) (e : ℤ) → T (fits binary64 (fin s m e)) → m * up e ≤ (2 ^ 53 - 1) * 2 ^ 971 * down e
unfolding fits
fits_at_most s zero e t = none (up e) ((2 ^ 53 - 1) * 2 ^ 971 * down e)
  where
    none : (a b : ℕ) → 0 * a ≤ b
    none a b = omega arith
fits_at_most s (suc m) e t =
    let odd = nat_eq (suc m % 2) 1 in
    let short = nat_lt (suc m) (2 ^ 53) in
    let fine = leb (down e) (2 ^ 1074) in
    let small = nat_lt (suc m * up e) (2 ^ 1024 * down e) in
    at_most 53 971 (suc m) e (ltb→lt (suc m) (2 ^ 53) (and_r odd short (and_l (odd && short) fine (and_l (odd && short && fine) small t))))
    (ltb→lt (suc m * up e) (2 ^ 1024 * down e) (and_r (odd && short && fine) small t))

pub size_at_most_greatest : (x : Float) → T (fits binary64 x) → Finite x → size x ≼ greatest
unfolding size is_finite of_bits
size_at_most_greatest nan t p = absurd p
size_at_most_greatest (inf s) t p = absurd p
size_at_most_greatest (fin s m e) t p =
    below→le (fin false m e) greatest tt tt (flat (m * up e) ((2 ^ 53 - 1) * 2 ^ 971) (down e) (fits_at_most s m e t))
  where
    flat : (a g d : ℕ) → a ≤ g * d → a * 1 + 0 * d ≤ g * d + 0 * 1
    flat a g d h = omega arith

pub double_between : (x : Float) → T (fits binary64 x) → Finite x → Between (neg greatest) greatest x
double_between x t p = size→between greatest x (unfold is_finite of_bits in tt) (size_at_most_greatest x t p)

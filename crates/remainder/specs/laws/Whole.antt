-- What is left of a whole number by another: of a product, and of numbers with zeros at their end.
use Rattle.std.specs.Prelude.{◌≡◌, ℕ, ◌+◌, ◌-◌, ◌*◌, ◌/◌, ◌%◌, ◌^◌, ◌≤◌, ◌<◌}
use Rattle.std.proofs.Common.{sym, ap, ◌∙◌, mul_assoc, mul-lt-mul_of_pos_right, mod-lt, div-add-mod', arith, pow-add, pow_pos}
use Rattle.std.proofs.Math.Nat.{add-mul-mod_self_right}
use Rattle.std.proofs.Math.Arith.{digits_mod}
use Rattle.std.specs.Float.Ieee.Digits.{back}

rest_times : (a b n : ℕ) → a % n * b % n ≡ a * b % n
rest_times a b n = sym (ap (λ (x : ℕ). x % n) e ∙ add-mul-mod_self_right (a % n * b) (a / n * b) n)
  where
    spread : (q r : ℕ) → (q * n + r) * b ≡ r * b + q * b * n
    spread q r = omega arith

    e : a * b ≡ a % n * b + a / n * b * n
    e = ap (λ (x : ℕ). x * b) (sym (div-add-mod' a n)) ∙ spread (a / n) (a % n)

pub rest_scaled : (a b c : ℕ) → 0 < b → 0 < c → a * c % (b * c) ≡ a % b * c
rest_scaled a b c p q =
    ap (λ (x : ℕ). x * c % (b * c)) (sym (div-add-mod' a b))
    ∙ ap (λ (x : ℕ). x % (b * c)) (spread (a / b) (a % b))
    ∙ digits_mod (a / b) (mul-lt-mul_of_pos_right (mod-lt a p) q)
  where
    spread : (q r : ℕ) → (q * b + r) * c ≡ q * (b * c) + r * c
    spread q r = omega arith

-- r·2^k by way of the j highest of the k places
pub rest_in_parts : (r j k n : ℕ) → j ≤ k → r * 2 ^ j % n * 2 ^ (k - j) % n ≡ r * 2 ^ k % n
rest_in_parts r j k n h =
    rest_times (r * 2 ^ j) (2 ^ (k - j)) n
    ∙ ap (λ (x : ℕ). x % n)
    (mul_assoc r (2 ^ j) (2 ^ (k - j)) ∙ ap (λ (x : ℕ). r * x) (sym (pow-add 2 j (k - j)) ∙ ap (λ (x : ℕ). 2 ^ x) (whole h)))
  where
    whole : j ≤ k → j + (k - j) ≡ k
    whole h = omega arith

-- m·2^e by n·2^f, where the first has more zeros at its end
pub rest_lowered : (m e n f : ℕ) → 0 < n → f ≤ e → m * 2 ^ (e - f) % n * 2 ^ f ≡ m * 2 ^ e % (n * 2 ^ f)
rest_lowered m e n f p h =
    sym
    (ap (λ (x : ℕ). x % (n * 2 ^ f))
    (ap (λ (x : ℕ). m * x) (ap (λ (x : ℕ). 2 ^ x) (sym (back e f h)) ∙ pow-add 2 (e - f) f) ∙ sym (mul_assoc m (2 ^ (e - f)) (2 ^ f)))
    ∙ rest_scaled (m * 2 ^ (e - f)) n (2 ^ f) p (pow_pos f))

-- The root of the rule is the nearest double: IEEE 754's squareRoot to nearest.
use Rattle.std.specs.Prelude.{◌≡◌, ℕ, zero, suc, ◌+◌, ◌-◌, ◌*◌, ◌/◌, ◌%◌, ◌^◌, ◌<◌, ◌≤◌, refl, Float}
use Rattle.std.proofs.Common.{sym, ap, ◌∙◌, subst, le_trans, lt_of_lt_of_le, mul-pos, mul-le-mul, mul-le-mul_right, mul-lt-mul_of_pos_right, arith, pow-add, pow_pos}
use Rattle.std.proofs.Math.Nat.{mul-mul-mul_comm}
use Rattle.double.specs.rules.Operations.{bits}
use Rattle.double.specs.rules.Count.{IsAboveZero, count}
use Rattle.root.specs.rules.Nearest.{twice_root_squared, IsRoot}
use Rattle.root.specs.rules.Whole.{IsWholeRoot, whole_root}
use Rattle.root.specs.rules.Root.{root_pattern, root_of}
use Rattle.double.specs.laws.Count.{double_short}
use Rattle.double.specs.laws.Patterns.{pattern_from_zero, count_high}
use Rattle.root.specs.laws.Unique.{root_unique}
use Rattle.root.specs.laws.Midpoint.{near_above, near_below}
use Rattle.root.specs.laws.Whole.{whole_root_lem, whole_root_least, whole_root_most}
use Rattle.double.specs.notions.Count.{Short}
use Rattle.root.specs.notions.Steps.{Normal}
use Rattle.root.specs.laws.Normal.{above_zero_normal, pattern_is}

-- ---- the last of 54 digits rounds

-- the square of an odd number is not even
odd_below : (q n m : ℕ) → 0 < q → n ≡ 2 * m → (2 * q - 1) * (2 * q - 1) ≤ n → (2 * q - 1) * (2 * q - 1) < n
odd_below zero n m p e h = omega arith
odd_below (suc q) n m p e h =
    let z : 2 * suc q - 1 ≡ 2 * q + 1 = omega arith in
    let h' : (2 * q + 1) * (2 * q + 1) ≤ n = subst (λ (x : ℕ). x * x ≤ n) z h in
    subst (λ (x : ℕ). x * x < n) (sym z) (omega arith)

module _ {w d e : ℕ} (n : Normal w d e) where
  abbrev s : ℕ
  s = whole_root 54 (d * 2 ^ 54)

  abbrev q : ℕ
  q = (s + 1) / 2

  whole : IsWholeRoot (d * 2 ^ 54) s
  whole = whole_root_lem 54 (d * 2 ^ 54) (omega (arith, n.most))

  s_least : 2 ^ 53 ≤ s
  s_least = whole_root_least (2 ^ 53) whole (mul-le-mul_right (2 ^ 54) n.least)

  pub root_digits_most : s < 2 ^ 54 - 1
  root_digits_most = whole_root_most (2 ^ 54 - 1) whole (omega (arith, n.most))

  q_above : d * 2 ^ 54 < (2 * q + 1) * (2 * q + 1)
  q_above = lt_of_lt_of_le whole.over (mul-le-mul {n₁ = s + 1} {m₁ = s + 1} (omega arith) (omega arith))

  q_below : (2 * q - 1) * (2 * q - 1) < d * 2 ^ 54
  q_below =
      odd_below q (d * 2 ^ 54) (d * 2 ^ 53) (omega (arith, s_least)) (omega arith)
      (le_trans (mul-le-mul {n₂ = s} {m₂ = s} (omega arith) (omega arith)) whole.under)

  is_squares : w ≡ d * 2 ^ 54 * (2 ^ e * 2 ^ e)
  is_squares = n.is ∙ ap (λ (x : ℕ). d * 2 ^ 54 * x) (ap (λ (x : ℕ). 2 ^ x) (omega arith) ∙ pow-add 2 e e)

  some : 0 < 2 ^ e * 2 ^ e
  some = mul-pos (pow_pos e) (pow_pos e)

  above : w < (2 * q + 1) * 2 ^ e * ((2 * q + 1) * 2 ^ e)
  above = rw (mul-mul-mul_comm (2 * q + 1) (2 ^ e) (2 * q + 1) (2 ^ e), is_squares) (mul-lt-mul_of_pos_right q_above some)

  below : (2 * q - 1) * 2 ^ e * ((2 * q - 1) * 2 ^ e) < w
  below = rw (mul-mul-mul_comm (2 * q - 1) (2 ^ e) (2 * q - 1) (2 ^ e), is_squares) (mul-lt-mul_of_pos_right q_below some)

  floor : 2 ^ 53 * 2 ^ e * (2 ^ 53 * 2 ^ e) ≤ w
  floor =
      rw (mul-mul-mul_comm (2 ^ 53) (2 ^ e) (2 ^ 53) (2 ^ e), is_squares)
      (mul-le-mul_right (2 ^ e * 2 ^ e) (mul-le-mul_right (2 ^ 54) n.least))

  q_least : 2 ^ 52 ≤ q
  q_least = omega (arith, s_least)

  q_most : q < 2 ^ 53
  q_most = omega (arith, root_digits_most)

  pub pattern_finite : root_pattern w < 2047 * 2 ^ 52
  pattern_finite = rw (pattern_is n) (omega (arith, q_most, n.room))

  counts : count (bits (root_pattern w)) ≡ q * 2 ^ e
  counts = rw (pattern_is n) (count_high (e * 2 ^ 52 + q) (omega (arith, q_least)) (omega (arith, q_most, n.room)) ∙ rw (lead, field))
    where
      lead : 2 ^ 52 + (e * 2 ^ 52 + q) % 2 ^ 52 ≡ q
      lead = omega (arith, q_least, q_most)

      field : (e * 2 ^ 52 + q) / 2 ^ 52 - 1 ≡ e
      field = omega (arith, q_least, q_most)

  pub nearest : (x : Float) → twice_root_squared x ≡ w → IsRoot x (bits (root_pattern w))
  nearest x t = record {
    double = pattern_from_zero (root_pattern w) pattern_finite;
    above = λ y d l. go_above (count y) (count (bits (root_pattern w))) counts (double_short y d.held) l;
    below = λ y d l. go_below (count y) (count (bits (root_pattern w))) counts (double_short y d.held) l;
  }
    where
      go_above : (y r : ℕ) → r ≡ q * 2 ^ e → Short y → r < y → twice_root_squared x < (r + y) * (r + y)
      go_above y r c f l = rw (t, c, f.3) (near_above w q e q_least f.0 f.1 above f.2 (rw (c, f.3) at l))

      go_below : (y r : ℕ) → r ≡ q * 2 ^ e → Short y → y < r → (r + y) * (r + y) < twice_root_squared x
      go_below y r c f l = rw (t, c, f.3) (near_below w q e q_least f.0 f.1 below floor f.2 (rw (c, f.3) at l))

-- ---- for every double above zero

pub root_is_nearest : (x : Float) → IsAboveZero x → IsRoot x (root_of x)
unfolding root_of
root_is_nearest x a = rw (a.above, a.finite) (nearest (above_zero_normal x a).2 x refl)

-- and nothing else is
pub root_is_only : (x r : Float) → IsAboveZero x → IsRoot x r → r ≡ root_of x
root_is_only x r a h = root_unique x r (root_of x) h (root_is_nearest x a)

-- What the tests of `root_of` tell.
use Rattle.std.specs.Prelude.{◌≡◌, ℕ, zero, suc, ◌+◌, ◌-◌, ◌*◌, ◌/◌, ◌%◌, ◌^◌, ◌<◌, ◌≤◌, Bool, true, false, T, ◌⊎◌, ℤ, to_bits, refl, Float}
use Rattle.std.proofs.Common.{sym, ◌∙◌, inl, inr, true≢false, le_of_mul-le-mul_right, lt_of_not-le, mul-le-mul_right, le-mul_of_pos_right, le_trans, arith, pow_pos, lt-ltb}
use Rattle.std.specs.Float.{nan, inf, fin, binary64}
use Rattle.std.specs.Float.Ieee.{fits, up, down, le, lt, of_bits}
use Rattle.std.specs.Float.Ieee.Bits.{of_bits-to_bits, is_true}
use Rattle.std.specs.Float.Ieee.Fits.{down_pos}
use Rattle.double.specs.rules.Operations as operations
use Rattle.double.specs.rules.Operations.{bits}
use Rattle.double.specs.rules.Sign.{bears_minus, is_finite}
use Rattle.double.specs.rules.Count.{IsAboveZero, count}
use Rattle.double.specs.notions.Greatest.{greatest}
use Rattle.double.specs.laws.Numbers.{less_or_not}
use Rattle.double.specs.laws.Tests.{holds}
use Rattle.double.specs.laws.Order.{le→below, below→le}
use Rattle.double.specs.laws.Greatest.{double_between}
use Rattle.double.specs.laws.Count.{count_exact}
use Rattle.double.specs.laws.Patterns.{count_low, count_high, above_zero_pattern}
use Rattle.root.specs.notions.Steps.{IsNormal, IsSubnormal}

-- 2^−1022, the least double that has its 53 digits
abbrev least_normal : Float
least_normal = bits 0x0010000000000000

-- ---- by counts: it counts 2^52

module _ (m : ℕ) (e : ℤ) (F : T (fits binary64 (fin false m e))) where
  counted : m * up e * 2 ^ 1074 ≡ count (fin false m e) * down e
  unfolding is_finite bears_minus
  counted = (count_exact (fin false m e) F refl).1

  counts_from : down e ≤ m * up e * 2 ^ 1022 → 2 ^ 52 ≤ count (fin false m e)
  counts_from h =
      le_of_mul-le-mul_right (scaled (2 ^ 1022) (m * up e) (down e) (count (fin false m e) * down e) counted h) (down_pos e)
    where
      scaled : (p n d w : ℕ) → n * (p * 2 ^ 52) ≡ w → d ≤ n * p → 2 ^ 52 * d ≤ w
      scaled p n d w c h = omega arith

  from_counts : 2 ^ 52 ≤ count (fin false m e) → down e ≤ m * up e * 2 ^ 1022
  from_counts h =
      scaled (2 ^ 1022) (m * up e) (down e) (count (fin false m e) * down e) counted (mul-le-mul_right (down e) h)
    where
      scaled : (p n d w : ℕ) → n * (p * 2 ^ 52) ≡ w → 2 ^ 52 * d ≤ w → d ≤ n * p
      scaled p n d w c h = omega arith

-- as much is counted from its own pattern on, and not before
pattern_from : (b : ℕ) → 2 ^ 52 ≤ count (bits b) → 2 ^ 52 ≤ b
pattern_from b h = go (less_or_not b (2 ^ 52))
  where
    go : (b < 2 ^ 52) ⊎ (2 ^ 52 ≤ b) → 2 ^ 52 ≤ b
    go (inl l) = rw (count_low b l) at h
    go (inr l) = l

pattern_counts : (b : ℕ) → b < 2047 * 2 ^ 52 → 2 ^ 52 ≤ b → 2 ^ 52 ≤ count (bits b)
pattern_counts b t l =
    rw (count_high b l t)
    (le_trans {n = 2 ^ 52} {m = 2 ^ 52 + b % 2 ^ 52} (omega arith) (le-mul_of_pos_right (2 ^ 52 + b % 2 ^ 52) (pow_pos (b / 2 ^ 52 - 1))))

-- ---- what the tests tell

pub normal_tested : (x : Float) → T (fits binary64 x) → le least_normal x ≡ true → le x greatest ≡ true → IsNormal x
unfolding le lt of_bits is_finite bears_minus
normal_tested nan F l h = absurd (true≢false (sym l))
normal_tested (inf true) F l h = absurd (true≢false (sym l))
normal_tested (inf false) F l h = absurd (true≢false (sym h))
normal_tested (fin true m e) F l h =
    absurd (nothing (m * up e) (2 ^ 1022) (down e) (down_pos e) (le→below least_normal (fin true m e) tt tt (holds l)))
  where
    nothing : (n p d : ℕ) → 0 < d → 1 * 1 * d + n * p ≤ 0 * p + 0 * d → ⊥
    nothing n p d s h = omega arith
normal_tested (fin false m e) F l h =
    let x = fin false m e in
    let b : down e ≤ m * up e * 2 ^ 1022 = plain (m * up e) (2 ^ 1022) (down e) (le→below least_normal x tt tt (holds l)) in
    let a : lt operations.zero x ≡ true = lt-ltb (0 * 1 * down e) (m * up e * 1) (some (m * up e) (2 ^ 1022) (down e) (down_pos e) b) in
    record {
      above = record { held = F; finite = refl; above = a };
      plus = refl;
      least = pattern_from (to_bits binary64 x) (rw (of_bits-to_bits binary64 x F) (counts_from m e F b));
    }
  where
    plain : (n p d : ℕ) → 1 * 1 * d + 0 * p ≤ n * p + 0 * d → d ≤ n * p
    plain n p d h = omega arith

    some : (n p d : ℕ) → 0 < d → d ≤ n * p → 0 * 1 * d < n * 1
    some zero p d s h = omega arith
    some (suc n) p d s h = omega arith

pub subnormal_tested : (x : Float) → T (fits binary64 x) → le least_normal x ≡ false → lt operations.zero x ≡ true → IsSubnormal x
unfolding le lt of_bits is_finite bears_minus
subnormal_tested nan F l h = absurd (true≢false (sym h))
subnormal_tested (inf true) F l h = absurd (true≢false (sym h))
subnormal_tested (inf false) F l h = absurd (true≢false l)
subnormal_tested (fin true m e) F l h = absurd (true≢false (sym h))
subnormal_tested (fin false m e) F l h =
    let x = fin false m e in
    let b = to_bits binary64 x in
    let a : IsAboveZero x = record { held = F; finite = refl; above = h } in
    record { above = a; most = lt_of_not-le (λ (g : 2 ^ 52 ≤ b). above-all (pattern_counts b (above_zero_pattern x a).1 g)) }
  where
    plain : (n p d : ℕ) → d ≤ n * p → 1 * 1 * d + 0 * p ≤ n * p + 0 * d
    plain n p d h = omega arith

    above-all : 2 ^ 52 ≤ count (bits (to_bits binary64 (fin false m e))) → ⊥
    above-all g =
        let x = fin false m e in
        let c : 2 ^ 52 ≤ count x = rw (of_bits-to_bits binary64 x F) at g in
        let t = below→le least_normal x tt tt (plain (m * up e) (2 ^ 1022) (down e) (from_counts m e F c)) in
        true≢false (sym (is_true (le least_normal x) t) ∙ l)

pub infinite_tested : (x : Float) → T (fits binary64 x) → le x greatest ≡ false → is_finite x ≡ false
infinite_tested x F h = go (is_finite x) refl
  where
    go : (t : Bool) → is_finite x ≡ t → is_finite x ≡ false
    go true i = absurd (true≢false (sym (is_true (le x greatest) (double_between x F (holds i)).to) ∙ h))
    go false i = i

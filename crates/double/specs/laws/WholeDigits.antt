-- The whole part of a double from 1/2 up to 2^53 is its 53 digits without those that stand after the point.
use Rattle.std.specs.Prelude.{◌≡◌, ℕ, ◌+◌, ◌-◌, ◌*◌, ◌/◌, ◌%◌, ◌^◌, ◌<◌, ◌≤◌, min, Bool, true, false, not, T, ◌⊎◌, ℤ, nat_lt, to_bits, Float}
use Rattle.std.proofs.Math.Path.{refl, sym}
use Rattle.std.proofs.Common.{ap, ◌∙◌, inl, inr, lt_of_le_of_lt, mul_assoc, mul-le-mul_right, mul-lt-mul_of_pos_right, div-lt_iff_lt-mul, T_not, pow-add, pow_pos, ltb-true, ltb-false}
use Rattle.std.proofs.Math.Nat.{lt_of_mul-lt-mul_right, le_of_mul-le-mul_right, div-eq_of_lt}
use native.Mathlib.Omega.{arith}
use Rattle.std.proofs.Math.Dec.{not_T}
use Rattle.std.specs.Float.{nan, inf, fin, binary64}
use Rattle.std.specs.Float.Ieee.{fits, up, down, eq, lt, le, to_unsigned, of_bits}
use Rattle.std.specs.Float.Ieee.Fits.{down_pos}
use Rattle.std.specs.Float.Ieee.Bits.{of_bits-to_bits}
use Rattle.std.specs.Float.Ieee.Nearest.{div_same}
use Rattle.double.specs.rules.Operations.{bits, half, one}
use Rattle.double.specs.rules.Sign.{bears_minus, is_finite}
use Rattle.double.specs.rules.Order.{◌≼◌}
use Rattle.double.specs.rules.Count.{count}
use Rattle.double.specs.rules.Whole.{whole_part}
use Rattle.double.specs.notions.WholeDigits.{IsNear, field}
use Rattle.double.specs.laws.Numbers.{less_or_not, pow_lt_back}
use Rattle.double.specs.laws.Order.{le_trans, le→below, below→le}
use Rattle.double.specs.laws.Tests.{fails}
use Rattle.double.specs.laws.Count.{count_exact}
use Rattle.double.specs.laws.Patterns.{count_low, count_high, from_zero_pattern}

-- ---- what the tests tell

-- what is not 1 or more, a NaN too, has no whole part
pub whole_part_none : (s : Float) → T (not (le one s)) → whole_part s ≡ 0
unfolding to_unsigned is_finite le lt eq of_bits
whole_part_none nan h = refl
whole_part_none (inf true) h = refl
whole_part_none (inf false) h = absurd h
whole_part_none (fin true m e) h = refl
whole_part_none (fin false m e) h =
    ap (λ (n : ℕ). min n (2 ^ 64 - 1)) (div-eq_of_lt {n = m * up e} {m = down e} (less (nat_lt (m * up e) (down e)) refl))
  where
    less : (b : Bool) → nat_lt (m * up e) (down e) ≡ b → m * up e < down e
    less true t = ltb-true (m * up e) (down e) t
    less false t =
        absurd (T_not (le one (fin false m e)) h (below→le one (fin false m e) tt tt (omega (arith, ltb-false (m * up e) (down e) t))))

pub none_below_half : (x : Float) → le half x ≡ false → 0 ≡ whole_part x
none_below_half x h =
    sym (whole_part_none x (not_T (le one x) (λ (l : T (le one x)). T_not (le half x) (fails h) (le_trans half one x (unfold le of_bits in tt) l))))

module _ (m : ℕ) (e : ℤ) (F : T (fits binary64 (fin false m e))) (l : down e ≤ 2 * (m * up e)) (h : m * up e < 2 ^ 53 * down e) where
  counted : m * up e * 2 ^ 1074 ≡ count (fin false m e) * down e
  unfolding is_finite bears_minus
  counted = (count_exact (fin false m e) F refl).1

  fin_near : IsNear (fin false m e)
  unfolding is_finite bears_minus to_unsigned
  fin_near =
      let d = down e in
      let n = m * up e in
      let c = count (fin false m e) in
      let q : n / d < 2 ^ 53 = (div-lt_iff_lt-mul (down_pos e)).1 h in
      let p : n / d ≡ c / 2 ^ 1074 = div_same n d c (2 ^ 1074) (down_pos e) (pow_pos 1074) counted in
      record {
        from_zero = record { held = F; finite = refl; plus = refl };
        least = le_of_mul-le-mul_right (under (2 ^ 1074) d n c counted (mul-le-mul_right (2 ^ 1074) l)) (down_pos e);
        most = lt_of_mul-lt-mul_right d (over (2 ^ 1074) d n (c * d) counted (mul-lt-mul_of_pos_right h (pow_pos 1074)));
        part = sym p ∙ small (n / d) q;
      }
    where
      under : (p d n c : ℕ) → n * p ≡ c * d → d * p ≤ 2 * n * p → p * d ≤ 2 * c * d
      under p d n c e h = omega arith

      over : (p d n w : ℕ) → n * p ≡ w → n * p < 2 ^ 53 * d * p → w < 2 ^ 53 * p * d
      over p d n w e h = omega arith

      small : (a : ℕ) → a < 2 ^ 53 → a ≡ min a (2 ^ 64 - 1)
      small a h = omega arith

pub near : (x : Float) → T (fits binary64 x) → half ≼ x → x ≼ bits 0x433fffffffffffff → IsNear x
unfolding le of_bits
near nan F l h = absurd l
near (inf true) F l h = absurd l
near (inf false) F l h = absurd h
near (fin true m e) F l h = absurd (nothing (m * up e) (down e) (down_pos e) (le→below half (fin true m e) (unfold is_finite in tt) (unfold is_finite in tt) l))
  where
    nothing : (n d : ℕ) → 0 < d → 1 * d + n * 2 ≤ 0 * 2 + 0 * d → ⊥
    nothing n d p h = omega arith
near (fin false m e) F l h =
    let p = le→below half (fin false m e) (unfold is_finite in tt) (unfold is_finite in tt) l in
    let q = le→below (fin false m e) (bits 0x433fffffffffffff) (unfold is_finite in tt) (unfold is_finite in tt) h in
    fin_near m e F (omega arith) (omega (arith, down_pos e))

-- ---- the pattern b of such a double: the places after the point are 1075 less its exponent's field

module _ (b : ℕ) (top : b < 2047 * 2 ^ 52) (lo : 2 ^ 1074 ≤ 2 * count (bits b)) (hi : count (bits b) < 2 ^ 53 * 2 ^ 1074) where
  abbrev d : ℕ
  d = 2 ^ 52 + b % 2 ^ 52

  normal : 2 ^ 52 ≤ b
  normal = go (less_or_not b (2 ^ 52))
    where
      few : 1074 < 53 → 2 ^ 52 ≤ b
      few h = omega arith

      go : (b < 2 ^ 52) ⊎ (2 ^ 52 ≤ b) → 2 ^ 52 ≤ b
      go (inl l) = few (pow_lt_back 1074 53 (lt_of_le_of_lt (rw (count_low b l) at lo) (omega arith)))
      go (inr l) = l

  counts : count (bits b) ≡ d * 2 ^ (b / 2 ^ 52 - 1)
  counts = count_high b normal top

  from : 1022 ≤ b / 2 ^ 52
  from =
      let k = b / 2 ^ 52 - 1 in
      let less : 2 * d < 2 ^ 54 = omega arith in
      let p : 1074 < 54 + k = pow_lt_back 1074 (54 + k) (rw (pow-add 2 54 k) (lt_of_le_of_lt (rw (counts, ← mul_assoc 2 d (2 ^ k)) at lo) (mul-lt-mul_of_pos_right less (pow_pos k)))) in
      omega arith

  upto : b / 2 ^ 52 ≤ 1075
  upto =
      let k = b / 2 ^ 52 - 1 in
      let more : 2 ^ 52 ≤ d = omega arith in
      let p : 52 + k < 53 + 1074 = pow_lt_back (52 + k) (53 + 1074) (rw (pow-add 2 52 k) (lt_of_le_of_lt (mul-le-mul_right (2 ^ k) more) (rw counts at hi))) in
      omega arith

  cut : d / 2 ^ (1075 - b / 2 ^ 52) ≡ count (bits b) / 2 ^ 1074
  cut =
      let k = b / 2 ^ 52 - 1 in
      let j = 1075 - b / 2 ^ 52 in
      let s : k + j ≡ 1074 = omega (arith, from, upto) in
      let e : d * 2 ^ 1074 ≡ d * 2 ^ k * 2 ^ j = ap (λ (i : ℕ). d * 2 ^ i) (sym s) ∙ ap (λ (p : ℕ). d * p) (pow-add 2 k j) ∙ sym (mul_assoc d (2 ^ k) (2 ^ j)) in
      div_same d (2 ^ j) (d * 2 ^ k) (2 ^ 1074) (pow_pos j) (pow_pos 1074) e ∙ ap (λ (c : ℕ). c / 2 ^ 1074) (sym counts)

-- ---- what code reads off the pattern

module _ (x : Float) (n : IsNear x) where
  again : bits (to_bits binary64 x) ≡ x
  again = of_bits-to_bits binary64 x n.from_zero.held

  pub field_from : 1022 ≤ field x
  field_from = from (to_bits binary64 x) (from_zero_pattern x n.from_zero) (rw again n.least) (rw again n.most)

  pub field_upto : field x ≤ 1075
  field_upto = upto (to_bits binary64 x) (from_zero_pattern x n.from_zero) (rw again n.least) (rw again n.most)

  pub digits_cut_lem : (2 ^ 52 + to_bits binary64 x % 2 ^ 52) / 2 ^ (1075 - field x) ≡ whole_part x
  digits_cut_lem =
      cut (to_bits binary64 x) (from_zero_pattern x n.from_zero) (rw again n.least) (rw again n.most)
      ∙ ap (λ (y : Float). count y / 2 ^ 1074) again
      ∙ n.part

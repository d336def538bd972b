-- Bit patterns of doubles: what each counts, and which are a finite double's.
use Rattle.std.specs.Prelude.{◌≡◌, ℕ, zero, suc, ◌+◌, ◌-◌, ◌*◌, ◌/◌, ◌%◌, ◌^◌, ◌<◌, ◌≤◌, Bool, true, false, cond, not, T, leb, ◌⊎◌, ◌==◌, ◌≢◌, nat_le, nat_lt, to_bits, refl, Float}
use Rattle.std.proofs.Common.{sym, ap, ◌∙◌, subst, inl, inr, true≢false, lt_irrefl, zero-mul, mul-one, mul-pos, pow_pos}
use Rattle.std.proofs.Math.Nat.{zero-lt-suc}
use native.Mathlib.Omega.{arith}
use Rattle.std.specs.Float.{nan, inf, fin, binary64}
use Rattle.std.specs.Float.Ieee.{up, down, odd, of_fields, of_bits, nan_bits, is_nan, lt}
use Rattle.std.specs.Float.Ieee.Bits.{of_bits-to_bits, of_bits-fits, nan_bits_is}
use Rattle.std.specs.Float.Ieee.Exact.{HasValue, odd_sign}
use borrow.Author.Tests.{lt-ltb, le-ltb, ltb-true, lt-leb, leb-false, ne_eqb}
use Rattle.double.specs.rules.Operations.{bits}
use Rattle.double.specs.rules.Operations as operations
use Rattle.double.specs.rules.Sign.{bears_minus, is_finite}
use Rattle.double.specs.rules.Count.{IsFromZero, IsAboveZero, count}
use Rattle.double.specs.laws.SignBit.{sign_bit}
use Rattle.double.specs.laws.Numbers.{less_or_not}
use Rattle.double.specs.laws.Count.{value_count, value_from_zero, count_exact}

-- ---- a pattern without its sign, in units of the smallest double

val : ℕ → ℕ
val b = cond (nat_lt b (2 ^ 52)) b ((2 ^ 52 + b % 2 ^ 52) * 2 ^ (b / 2 ^ 52 - 1))

val_low : (b : ℕ) → b < 2 ^ 52 → val b ≡ b
unfolding val
val_low b h = rw (lt-ltb b (2 ^ 52) h)

val_high : (b : ℕ) → 2 ^ 52 ≤ b → val b ≡ (2 ^ 52 + b % 2 ^ 52) * 2 ^ (b / 2 ^ 52 - 1)
unfolding val
val_high b h = rw (le-ltb b (2 ^ 52) h)

-- by the exponent's field
field_value : (s : Bool) (m e : ℕ) → m / 2 ^ 52 ≡ e → e < 2047 → HasValue (of_fields binary64 s e (m % 2 ^ 52)) s (val m) (2 ^ 1074)
unfolding of_fields
field_value s m zero p h =
    let t = m % 2 ^ 52 in
    subst (λ (a : ℕ). HasValue (odd 53 s t 0 1074) s a (2 ^ 1074))
    (mul-one t ∙ omega arith ∙ sym (val_low m (omega arith))) (odd_sign 53 s t 0 1074)
field_value s m (suc e) p h =
    let t = m % 2 ^ 52 in
    rw (ne_eqb (suc e) 2047 (differ (suc e) h))
    (subst (λ (a : ℕ). HasValue (odd 53 s (2 ^ 52 + t) e 1074) s a (2 ^ 1074))
    (ap (λ (k : ℕ). (2 ^ 52 + t) * 2 ^ k) (before e (m / 2 ^ 52) p) ∙ sym (val_high m (omega arith)))
    (odd_sign 53 s (2 ^ 52 + t) e 1074))
  where
    differ : (x : ℕ) → x < 2047 → x ≢ 2047
    differ x h e = omega arith

    before : (e x : ℕ) → x ≡ suc e → e ≡ x - 1
    before e x p = omega arith

-- a pattern is a sign and the rest
fields : (n : ℕ) → of_bits binary64 n ≡ of_fields binary64 (nat_le (2 ^ 63) n) (n % 2 ^ 63 / 2 ^ 52) (n % 2 ^ 63 % 2 ^ 52)
unfolding of_bits
fields n = ap (λ (t : ℕ). of_fields binary64 (nat_le (2 ^ 63) n) (n % 2 ^ 63 / 2 ^ 52) t) (omega arith)

finite_value : (n : ℕ) → n % 2 ^ 63 < 2047 * 2 ^ 52 → HasValue (of_bits binary64 n) (nat_le (2 ^ 63) n) (val (n % 2 ^ 63)) (2 ^ 1074)
finite_value n h = rw (fields n) (field_value (nat_le (2 ^ 63) n) (n % 2 ^ 63) (n % 2 ^ 63 / 2 ^ 52) refl (omega arith))

positive_value : (n : ℕ) → n < 2047 * 2 ^ 52 → HasValue (of_bits binary64 n) false (val n) (2 ^ 1074)
positive_value n h =
    let e : n % 2 ^ 63 ≡ n = omega arith in
    rw (lt-leb (2 ^ 63) n (omega arith), e) at (finite_value n (omega arith))

-- the highest field: an infinity, or a NaN
top_field : (n : ℕ) → 2047 * 2 ^ 52 ≤ n % 2 ^ 63 → of_bits binary64 n ≡ cond (n % 2 ^ 63 % 2 ^ 52 == 0) (inf (nat_le (2 ^ 63) n)) nan
unfolding of_fields
top_field n h =
    let e : n % 2 ^ 63 / 2 ^ 52 ≡ 2047 = omega arith in
    fields n ∙ ap (λ (x : ℕ). of_fields binary64 (nat_le (2 ^ 63) n) x (n % 2 ^ 63 % 2 ^ 52)) e

-- ---- the patterns below that of +infinity

pub pattern_from_zero : (b : ℕ) → b < 2047 * 2 ^ 52 → IsFromZero (bits b)
pattern_from_zero b h = value_from_zero (bits b) (val b) (2 ^ 1074) (of_bits-fits binary64 b) (positive_value b h)

pub count_low : (b : ℕ) → b < 2 ^ 52 → count (bits b) ≡ b
count_low b h = value_count (bits b) false (val b) (positive_value b (omega arith)) ∙ val_low b h

pub count_high : (b : ℕ) → 2 ^ 52 ≤ b → b < 2047 * 2 ^ 52 → count (bits b) ≡ (2 ^ 52 + b % 2 ^ 52) * 2 ^ (b / 2 ^ 52 - 1)
count_high b l h = value_count (bits b) false (val b) (positive_value b h) ∙ val_high b l

pub pattern_no_nan : (b : ℕ) → b < 2047 * 2 ^ 52 → T (not (nan_bits binary64 b))
unfolding is_nan
pattern_no_nan b h = rw (nan_bits_is binary64 b) (go (bits b) (positive_value b h))
  where
    go : (v : Float) → HasValue v false (val b) (2 ^ 1074) → T (not (is_nan v))
    go nan k = absurd k
    go (inf s) k = absurd k
    go (fin s m e) k = tt

-- ---- the pattern of a finite double above zero

above_zero_value : (x : Float) (s : Bool) (a c : ℕ) → 0 < c → lt operations.zero x ≡ true → HasValue x s a c → (s ≡ false) × (0 < a)
unfolding lt of_bits
above_zero_value nan s a c p l h = absurd h
above_zero_value (inf t) s a c p l h = absurd h
above_zero_value (fin true m e) s a c p l h = absurd (true≢false (sym l))
above_zero_value (fin false m e) s a c p l h = (sym h.0, some (m * up e) a (down e) c p (ltb-true _ _ l) h.1)
  where
    some : (x a d c : ℕ) → 0 < c → 0 * 1 * d < x * 1 → x * c ≡ a * d → 0 < a
    some x zero d c p l h = absurd (nothing (mul-pos (omega arith) p))
      where
        nothing : 0 < x * c → ⊥
        nothing q = lt_irrefl 0 (rw (h, zero-mul d) at q)
    some x (suc a) d c p l h = zero-lt-suc a

pub finite_no_nan : (x : Float) → is_finite x ≡ true → T (not (is_nan x))
unfolding is_finite is_nan
finite_no_nan nan i = absurd (true≢false (sym i))
finite_no_nan (inf s) i = tt
finite_no_nan (fin s m e) i = tt

below_top : (b : ℕ) → is_finite (bits b) ≡ true → b % 2 ^ 63 < 2047 * 2 ^ 52
unfolding is_finite
below_top b i = go (less_or_not (b % 2 ^ 63) (2047 * 2 ^ 52))
  where
    not_finite : (t s : Bool) → is_finite (cond t (inf s) nan) ≢ true
    not_finite true s e = true≢false (sym e)
    not_finite false s e = true≢false (sym e)

    go : (b % 2 ^ 63 < 2047 * 2 ^ 52) ⊎ (2047 * 2 ^ 52 ≤ b % 2 ^ 63) → b % 2 ^ 63 < 2047 * 2 ^ 52
    go (inl h) = h
    go (inr h) = absurd (not_finite (b % 2 ^ 63 % 2 ^ 52 == 0) (nat_le (2 ^ 63) b) (ap is_finite (sym (top_field b h)) ∙ i))

pub from_zero_pattern : (x : Float) → IsFromZero x → to_bits binary64 x < 2047 * 2 ^ 52
from_zero_pattern x d =
    let plus : leb (2 ^ 63) (to_bits binary64 x) ≡ false = sign_bit binary64 x d.held (finite_no_nan x d.finite) ∙ d.plus in
    let low : to_bits binary64 x < 2 ^ 63 = leb-false (2 ^ 63) (to_bits binary64 x) plus in
    let rest = below_top (to_bits binary64 x) (rw (of_bits-to_bits binary64 x d.held) d.finite) in
    omega arith

module _ (b : ℕ) (i : is_finite (bits b) ≡ true) (l : lt operations.zero (bits b) ≡ true) where
  plus : (nat_le (2 ^ 63) b ≡ false) × (0 < val (b % 2 ^ 63))
  plus = above_zero_value (bits b) (nat_le (2 ^ 63) b) (val (b % 2 ^ 63)) (2 ^ 1074) (pow_pos 1074) l (finite_value b (below_top b i))

  between : (0 < b) × (b < 2047 * 2 ^ 52)
  unfolding val
  between =
      let low : b < 2 ^ 63 = leb-false (2 ^ 63) b plus.0 in
      let same : b % 2 ^ 63 ≡ b = omega arith in
      (some b (rw same at plus.1), rw same at (below_top b i))
    where
      some : (b : ℕ) → 0 < val b → 0 < b
      some zero h = absurd (lt_irrefl 0 h)
      some (suc b) h = zero-lt-suc b

pub above_zero_pattern : (x : Float) → IsAboveZero x → (0 < to_bits binary64 x) × (to_bits binary64 x < 2047 * 2 ^ 52)
above_zero_pattern x a =
    let e = of_bits-to_bits binary64 x a.held in
    between (to_bits binary64 x) (rw e a.finite) (rw e a.above)

pub above_zero_counts : (x : Float) → IsAboveZero x → 0 < count x
above_zero_counts x a =
    (above_zero_value x (bears_minus x) (count x) (2 ^ 1074) (pow_pos 1074) a.above (count_exact x a.held a.finite)).1

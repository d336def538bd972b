-- What the tests of `remainder_of` tell.
use Rattle.std.specs.Prelude.{◌≡◌, refl, true, false, not, ℕ, zero, suc, ◌+◌, ◌*◌, ◌^◌, ◌≤◌, ◌<◌, T, Float}
use Rattle.std.proofs.Common.{sym, ap, ◌∙◌, true≢false, zero-lt-suc, lt_irrefl, lt_of_lt_of_le, zero-mul, mul-pos, mod-eq_of_lt, arith, pow_pos, lt-ltb, le-ltb, ltb-false}
use Rattle.std.proofs.Math.Nat.{zero-div}
use Rattle.std.specs.Float.{nan, inf, fin, binary64}
use Rattle.std.specs.Float.Ieee.{fits, up, down, rem, lt, of_bits, to_bits, is_nan}
use Rattle.std.specs.Float.Ieee.Bits.{of_bits-to_bits}
use Rattle.std.specs.Float.Ieee.Fits.{up_pos}
use Rattle.double.specs.rules.Operations as operations
use Rattle.double.specs.rules.Operations.{bits}
use Rattle.double.specs.rules.Sign.{bears_minus, size, is_finite}
use Rattle.double.specs.rules.Count.{IsFromZero, IsAboveZero, count}
use Rattle.double.specs.laws.Count.{size_counts}
use Rattle.double.specs.laws.Patterns.{from_zero_pattern, above_zero_pattern, above_zero_counts}
use Rattle.remainder.specs.rules.Remainder.{remainder_of}
use Rattle.remainder.specs.rules.Digits.{binary_places_of}
use Rattle.remainder.specs.notions.Steps.{size_pattern, Counted, Divisible}
use Rattle.remainder.specs.laws.Digits.{counted, count_order}
use Rattle.remainder.specs.laws.Remainder.{remainder_is_only}

-- an infinity has none
pub infinite_has_none : (x y : Float) → is_finite x ≡ false → nan ≡ remainder_of x y
unfolding is_finite rem
infinite_has_none nan y i = refl
infinite_has_none (inf s) y i = refl
infinite_has_none (fin s m e) y i = absurd (true≢false i)

-- nor has anything by zero or by a NaN
pub none_by_zero : (x y : Float) → lt operations.zero (size y) ≡ false → nan ≡ remainder_of x y
unfolding lt size rem of_bits
none_by_zero nan y l = refl
none_by_zero (inf s) y l = refl
none_by_zero (fin s m e) nan l = refl
none_by_zero (fin s m e) (inf t) l = absurd (true≢false l)
none_by_zero (fin s m e) (fin t n d) l = rw (nothing n (up d) (down d) (up_pos d) (ltb-false _ _ l))
  where
    nothing : (n u d : ℕ) → 0 < u → n * u * 1 ≤ 0 * 1 * d → n ≡ 0
    nothing zero u d p h = refl
    nothing (suc n) u d p h = omega (arith, mul-pos (zero-lt-suc n) p)

-- ---- the pattern of a size

pub size_from_zero : (x : Float) → T (fits binary64 x) → is_finite x ≡ true → IsFromZero (size x)
unfolding is_finite bears_minus size fits
size_from_zero nan F i = absurd (true≢false (sym i))
size_from_zero (inf s) F i = absurd (true≢false (sym i))
size_from_zero (fin s m e) F i = record { held = F; finite = refl; plus = refl }

-- read again it counts what the number does
pub pattern_counts : (x : Float) → T (fits binary64 x) → is_finite x ≡ true → count (bits (size_pattern x)) ≡ count x
pattern_counts x F i = ap count (of_bits-to_bits binary64 (size x) (size_from_zero x F i).held) ∙ size_counts x

pub counted_size : (x : Float) → T (fits binary64 x) → is_finite x ≡ true → Counted (size_pattern x)
counted_size x F i = counted (size_pattern x) (from_zero_pattern (size x) (size_from_zero x F i))

-- ---- what a size above zero to divide by is: finite, or an infinity, whose pattern is above every finite one

pub above_no_nan : (y : Float) → lt operations.zero y ≡ true → T (not (is_nan y))
unfolding lt is_nan of_bits
above_no_nan nan l = absurd (true≢false (sym l))
above_no_nan (inf s) l = tt
above_no_nan (fin s m e) l = tt

-- what is smaller than y is its own remainder
pub smaller_is_itself : (x y : Float) → T (fits binary64 x) → T (fits binary64 y) → is_finite x ≡ true → lt operations.zero (size y) ≡ true
    → size_pattern x < size_pattern y → x ≡ remainder_of x y
unfolding is_finite lt size rem of_bits
smaller_is_itself nan y F G i l h = absurd (true≢false (sym i))
smaller_is_itself (inf s) y F G i l h = absurd (true≢false (sym i))
smaller_is_itself (fin s m e) nan F G i l h = absurd (true≢false (sym l))
smaller_is_itself (fin s m e) (inf t) F G i l h = refl
smaller_is_itself (fin s m e) (fin t n d) F G i l h =
    let x = fin s m e in
    let y = fin t n d in
    let k : count x < count y =
    rw (pattern_counts x F refl, pattern_counts y G refl) at (count_order (counted_size x F refl) (counted_size y G refl) h) in
    remainder_is_only x y x F G refl refl (omega arith)
    (record { held = F; finite = refl; sign = refl; rest = sym (mod-eq_of_lt k) })

pub divisible : (x y : Float) → T (fits binary64 x) → T (fits binary64 y) → is_finite x ≡ true → lt operations.zero (size y) ≡ true
    → size_pattern y ≤ size_pattern x → Divisible x y
unfolding is_finite lt size fits of_bits to_bits
divisible nan y F G i l h = absurd (true≢false (sym i))
divisible (inf s) y F G i l h = absurd (true≢false (sym i))
divisible (fin s m e) nan F G i l h = absurd (true≢false (sym l))
divisible (fin s m e) (inf t) F G i l h = absurd (no_room (from_zero_pattern (size (fin s m e)) (size_from_zero (fin s m e) F refl)) h)
  where
    no_room : {b : ℕ} → b < 2047 * 2 ^ 52 → 2047 * 2 ^ 52 ≤ b → ⊥
    no_room p q = omega arith
divisible (fin s m e) (fin t n d) F G i l h =
    let x = fin s m e in
    let y = fin t n d in
    let a : IsAboveZero (size y) = record { held = G; finite = refl; above = l } in
    let some : 0 < size_pattern y = (above_zero_pattern (size y) a).0 in
    let k = counted_size x F refl in
    let digits = mul-pos (k.some (lt_of_lt_of_le some h)) (pow_pos (binary_places_of (size_pattern x))) in
    record {
      finite = refl;
      some = some;
      first_counts = rw (sym k.is, pattern_counts x F refl) at digits;
      second_counts = rw (size_counts y) at (above_zero_counts (size y) a);
    }

-- what counts something bears a minus sign where it is below zero
pub minus_below_zero : (x : Float) → is_finite x ≡ true → 0 < count x → lt x operations.zero ≡ bears_minus x
unfolding is_finite lt bears_minus count of_bits
minus_below_zero nan i h = absurd (true≢false (sym i))
minus_below_zero (inf s) i h = absurd (true≢false (sym i))
minus_below_zero (fin true zero e) i h = absurd (lt_irrefl 0 (simp (zero-mul, zero-div) at h))
minus_below_zero (fin true (suc m) e) i h = lt-ltb 0 (suc m * up e * 1 + 0 * 1 * down e) (omega (arith, mul-pos (zero-lt-suc m) (up_pos e)))
minus_below_zero (fin false m e) i h = le-ltb (m * up e * 1) (0 * 1 * down e) (omega arith)

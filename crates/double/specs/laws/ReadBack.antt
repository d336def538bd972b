-- A double's bits read back as that double, and a pattern that no NaN has as those bits.
use Rattle.std.specs.Prelude.{◌≡◌, ℕ, ◌*◌, ◌%◌, ◌^◌, ◌<◌, ◌≤◌, Bool, true, false, cond, not, T, ◌==◌, to_bits, refl, Float}
use Rattle.std.proofs.Common.{sym, ap, ◌∙◌, true≢false, arith, lt-ltb, le-ltb}
use Rattle.std.specs.Float.{nan, inf, fin, binary64}
use Rattle.std.specs.Float.Ieee.{eq, of_bits, fits, up, down, is_nan, nan_bits}
use Rattle.std.specs.Float.Ieee.Fits.{eq→eqb}
use Rattle.std.specs.Float.Ieee.Bits.{is_true, of_bits-to_bits, to_bits-of_bits, nan_bits_is, nan_bits_above}
use Rattle.double.specs.rules.Operations.{bits, zero}
use Rattle.double.specs.rules.Pattern.{pattern_of}
use Rattle.double.specs.laws.Patterns.{pattern_no_nan}
use Rattle.double.specs.laws.Tests.{fails}
use Rattle.double.specs.notions.Computed.{computed}

same_number : (a : ℕ) → (a == a) ≡ true
same_number a = is_true (a == a) (eq→eqb {a = a} {b = a} refl)

-- what is no NaN is equal to itself
equal_itself : (x : Float) → T (not (is_nan x)) → eq x x ≡ true
unfolding eq is_nan
equal_itself nan h = absurd h
equal_itself (inf true) h = refl
equal_itself (inf false) h = refl
equal_itself (fin true m e) h = rw (same_number (m * up e * down e))
equal_itself (fin false m e) h = rw (same_number (m * up e * down e))

-- and a NaN alone is not
pub only_nan : (x : Float) → eq x x ≡ false → x ≡ nan
unfolding is_nan
only_nan nan h = refl
only_nan (inf s) h = absurd (true≢false (sym (equal_itself (inf s) tt) ∙ h))
only_nan (fin s m e) h = absurd (true≢false (sym (equal_itself (fin s m e) tt) ∙ h))

quiet_nan : bits 0x7ff8000000000000 ≡ nan
unfolding of_bits
quiet_nan = refl

pub bits_pattern : (x : Float) → T (fits binary64 x) → bits (pattern_of x) ≡ x
unfolding pattern_of
bits_pattern x h = by_case (eq x x) refl
  where
    by_case : (b : Bool) → eq x x ≡ b → bits (cond b (to_bits binary64 x) 0x7ff8000000000000) ≡ x
    by_case true e = of_bits-to_bits binary64 x h
    by_case false e = quiet_nan ∙ sym (only_nan x e)

-- below an infinity's
pub pattern_bits : (b : ℕ) → b < 2047 * 2 ^ 52 → pattern_of (bits b) ≡ b
unfolding pattern_of
pattern_bits b h =
    let n : T (not (is_nan (bits b))) = rw (nan_bits_is binary64 b) at (pattern_no_nan b h) in
    ap (λ (t : Bool). cond t (to_bits binary64 (bits b)) 0x7ff8000000000000) (equal_itself (bits b) n)
    ∙ to_bits-of_bits binary64 b (omega arith) n

-- 0.0 has no bit set
pub zero_bits_lem : pattern_of zero ≡ 0
unfolding computed
zero_bits_lem = refl

-- without its sign a NaN's pattern lies above an infinity's, and is read as a NaN; every other is no NaN's
pub nan_pattern : (b : ℕ) → 0x7ff0000000000000 < b % 2 ^ 63 → bits b ≡ nan
unfolding is_nan
nan_pattern b h = only (bits b) (sym (nan_bits_is binary64 b) ∙ nan_bits_above binary64 b ∙ lt-ltb _ _ h)
  where
    only : (x : Float) → is_nan x ≡ true → x ≡ nan
    only nan e = refl
    only (inf s) e = absurd (true≢false (sym e))
    only (fin s m d) e = absurd (true≢false (sym e))

pub no_nan_pattern : (b : ℕ) → b % 2 ^ 63 ≤ 0x7ff0000000000000 → T (not (nan_bits binary64 b))
no_nan_pattern b h = fails (nan_bits_above binary64 b ∙ le-ltb _ _ h)

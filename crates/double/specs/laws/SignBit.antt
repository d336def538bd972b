-- The sign bit: a double that is no NaN bears a minus sign where its bit pattern is the sign's weight or more, 2^63.
use Rattle.std.specs.Prelude.{◌≡◌, ℕ, ◌+◌, ◌-◌, ◌*◌, ◌/◌, ◌^◌, ◌<◌, true, false, not, T, ℤ, nat_le, refl, Float}
use Rattle.std.proofs.Common.{subst, not-le_of_lt, arith, leb→le, le→leb}
use Rattle.std.proofs.Math.Dec.{not_T}
use Rattle.std.specs.Float.{nan, inf, fin, Format, binary32, binary64}
use Rattle.std.specs.Float.Ieee.{prec, low, hid, top, up, down, size, neg, to_bits, fits, is_nan}
use Rattle.std.specs.Float.Ieee.Fits.{neg-fits}
use Rattle.std.specs.Float.Ieee.Bits.{to_bits-lt, is_true, is_false}
use Rattle.double.specs.rules.Sign.{bears_minus}

-- the sign's weight is added on top of the rest of the pattern, which is below it
bits_minus : (f : Format) (m : ℕ) (e : ℤ) → to_bits f (fin true m e) ≡ top f + to_bits f (fin false m e)
unfolding to_bits
bits_minus f m e =
    let n = m * up e * 2 ^ low f / down e in
    let k = size n - prec f in
    regroup (top f) (k * hid f) (n / 2 ^ k)
  where
    regroup : (a b c : ℕ) → a + b + c ≡ a + (0 + b + c)
    regroup a b c = omega arith

bits_plus : (f : Format) (m : ℕ) (e : ℤ) → T (fits f (fin false m e)) → to_bits f (fin false m e) < top f
unfolding neg
bits_plus f m e t =
    room (top f) (to_bits f (fin false m e))
    (subst (λ (b : ℕ). b < 2 * top f) (bits_minus f m e) (to_bits-lt f (fin true m e) (neg-fits f (fin false m e) t)))
  where
    room : (a b : ℕ) → a + b < 2 * a → b < a
    room a b h = omega arith

infinite_plus : (f : Format) → nat_le (top f) (to_bits f (inf false)) ≡ false
unfolding to_bits
infinite_plus binary32 = refl
infinite_plus binary64 = refl

infinite_minus : (f : Format) → nat_le (top f) (to_bits f (inf true)) ≡ true
unfolding to_bits
infinite_minus binary32 = refl
infinite_minus binary64 = refl

pub sign_bit : (f : Format) (x : Float) → T (fits f x) → T (not (is_nan x)) → nat_le (top f) (to_bits f x) ≡ bears_minus x
unfolding is_nan bears_minus
sign_bit f nan t n = absurd n
sign_bit f (inf true) t n = infinite_minus f
sign_bit f (inf false) t n = infinite_plus f
sign_bit f (fin true m e) t n =
    is_true (nat_le (top f) (to_bits f (fin true m e)))
    (le→leb (top f) (to_bits f (fin true m e)) (rw (bits_minus f m e) (omega arith)))
sign_bit f (fin false m e) t n =
    let b = to_bits f (fin false m e) in
    is_false (nat_le (top f) b) (not_T (nat_le (top f) b) (λ (h : T (nat_le (top f) b)). not-le_of_lt (bits_plus f m e t) (leb→le (top f) b h)))

-- Doubles as whole numbers: each is its count over 2^1074, and the count has at most 53 digits before its zeros.
use Rattle.std.specs.Prelude.{◌≡◌, ℕ, zero, suc, ◌+◌, ◌-◌, ◌*◌, ◌/◌, ◌%◌, ◌^◌, ◌<◌, ◌≤◌, Bool, true, false, ◌&&◌, T, ℤ, pos, negsuc, from_bits, nat_eq, nat_le, nat_lt, refl, Float}
use Rattle.std.proofs.Common.{sym, ap, ◌∙◌, true≢false, zero-mul, mul-one, mul_assoc, mul-div_cancel, arith, ltb→lt, leb→le, pow-add, pow_pos}
use Rattle.std.specs.Float.Ieee as Ieee
use Rattle.std.specs.Float.{nan, inf, fin, binary64}
use Rattle.std.specs.Float.Ieee.{fits, up, down, to_bits}
use Rattle.std.specs.Float.Ieee.Digits.{back}
use Rattle.std.specs.Float.Ieee.Bits.{of_bits-to_bits}
use Rattle.std.specs.Float.Ieee.Exact.{HasValue}
use Rattle.std.specs.Float.Ieee.Fits.{and_l, and_r, down_pos}
use Rattle.double.specs.rules.Sign.{bears_minus, size, is_finite}
use Rattle.double.specs.rules.Count.{IsFromZero, count}
use Rattle.double.specs.laws.Numbers.{pow_le_back}
use Rattle.double.specs.notions.Count.{Short}

-- ---- what is a / 2^1074 counts a

pub value_count : (v : Float) (s : Bool) (a : ℕ) → HasValue v s a (2 ^ 1074) → count v ≡ a
unfolding count
value_count nan s a h = absurd h
value_count (inf t) s a h = absurd h
value_count (fin t m e) s a h = ap (λ (x : ℕ). x / down e) h.1 ∙ mul-div_cancel a (down_pos e)

pub value_from_zero : (v : Float) (a c : ℕ) → T (fits binary64 v) → HasValue v false a c → IsFromZero v
unfolding is_finite bears_minus
value_from_zero nan a c f h = absurd h
value_from_zero (inf t) a c f h = absurd h
value_from_zero (fin t m e) a c f h = record { held = f; finite = refl; plus = h.0 }

-- ---- each double's count is a·2^j with a below 2^53, and the double is its count over 2^1074

-- m·2^e in units of 2^−l
place : (l m : ℕ) (e : ℤ) → down e ≤ 2 ^ l → (j : ℕ) × (m * up e * 2 ^ l ≡ m * 2 ^ j * down e)
place l m (pos a) h = (a + l, rw (mul-one, mul_assoc m (2 ^ a) (2 ^ l), pow-add 2 a l))
place l m (negsuc a) h =
    let le : suc a ≤ l = pow_le_back (suc a) l h in
    (l - suc a, rw (mul-one, mul_assoc m (2 ^ (l - suc a)) (2 ^ suc a), ← pow-add 2 (l - suc a) (suc a), back l (suc a) le))

fits_digit : (s : Bool) (m : ℕ) (e : ℤ) → T (fits binary64 (fin s m e))
    → (j : ℕ) × (m < 2 ^ 53) × (m * up e * 2 ^ 1074 ≡ m * 2 ^ j * down e)
unfolding fits
fits_digit s zero e h = (0, pow_pos 53, simp zero-mul)
fits_digit s (suc m) e h =
    let A = nat_eq (suc m % 2) 1 in
    let B = nat_lt (suc m) (2 ^ 53) in
    let C = nat_le (down e) (2 ^ 1074) in
    let D = nat_lt (suc m * up e) (2 ^ 1024 * down e) in
    let p = place 1074 (suc m) e (leb→le (down e) (2 ^ 1074) (and_r (A && B) C (and_l (A && B && C) D h))) in
    (p.0, ltb→lt (suc m) (2 ^ 53) (and_r A B (and_l (A && B) C (and_l (A && B && C) D h))), p.1)

fin_count : (s : Bool) (m : ℕ) (e : ℤ) (f : T (fits binary64 (fin s m e))) → count (fin s m e) ≡ m * 2 ^ (fits_digit s m e f).0
unfolding count
fin_count s m e f =
    let p = fits_digit s m e f in
    ap (λ (x : ℕ). x / down e) p.2 ∙ mul-div_cancel (m * 2 ^ p.0) (down_pos e)

pub double_short : (x : Float) → T (fits binary64 x) → Short (count x)
unfolding count
double_short nan f = (0, 0, pow_pos 53, refl)
double_short (inf s) f = (0, 0, pow_pos 53, refl)
double_short (fin s m e) f = (m, (fits_digit s m e f).0, (fits_digit s m e f).1, fin_count s m e f)

pub count_exact : (x : Float) → T (fits binary64 x) → is_finite x ≡ true → HasValue x (bears_minus x) (count x) (2 ^ 1074)
unfolding is_finite bears_minus
count_exact nan f i = absurd (true≢false (sym i))
count_exact (inf s) f i = absurd (true≢false (sym i))
count_exact (fin s m e) f i = (refl, (fits_digit s m e f).2 ∙ ap (λ (x : ℕ). x * down e) (sym (fin_count s m e f)))

-- ---- a double from zero on is fixed by its count

bits_by_count : (r : Float) → is_finite r ≡ true → bears_minus r ≡ false
    → to_bits binary64 r ≡ (Ieee.size (count r) - 53) * 2 ^ 52 + count r / 2 ^ (Ieee.size (count r) - 53)
unfolding is_finite bears_minus count to_bits
bits_by_count nan i s = absurd (true≢false (sym i))
bits_by_count (inf t) i s = absurd (true≢false (sym i))
bits_by_count (fin t m e) i s = rw s (none _ _)
  where
    none : (a b : ℕ) → 0 + a + b ≡ a + b
    none a b = omega arith

pub same_count : (r s : Float) → IsFromZero r → IsFromZero s → count r ≡ count s → r ≡ s
same_count r s d d' h =
    sym (of_bits-to_bits binary64 r d.held)
    ∙ ap (from_bits binary64)
    (bits_by_count r d.finite d.plus
    ∙ ap (λ (n : ℕ). (Ieee.size n - 53) * 2 ^ 52 + n / 2 ^ (Ieee.size n - 53)) h
    ∙ sym (bits_by_count s d'.finite d'.plus))
    ∙ of_bits-to_bits binary64 s d'.held

-- ---- a size counts what the number does

pub size_counts : (x : Float) → count (size x) ≡ count x
unfolding size count
size_counts nan = refl
size_counts (inf s) = refl
size_counts (fin s m e) = refl

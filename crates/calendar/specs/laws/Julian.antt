-- The Julian day is the quotient of two whole numbers, rounded once.
use Rattle.std.specs.Prelude.{◌≡◌, ℕ, ◌+◌, ◌-◌, ◌*◌, ◌^◌, ◌<◌, ◌≤◌, Bool, true, false, cond, ℤ, pos, ◌≢◌, unsigned_abs, refl, Float}
use Rattle.std.proofs.Common.{ap, ◌∙◌, mul-pos, zero-mul, arith, ne_eqb}
use Rattle.std.specs.Float.{nan, inf, fin, binary64}
use Rattle.std.specs.Float.Ieee.{up, down, round, div, of_bits}
use Rattle.std.specs.Float.Ieee.Exact.{HasValue}
use Rattle.std.specs.Float.Ieee.Fits.{down_pos}
use Rattle.std.specs.Float.Ieee.Scale.{round_same}
use Rattle.double.specs.rules.Operations.{◌⊘◌}
use Rattle.double.specs.rules.Table.{decimal}
use Rattle.double.specs.rules.Whole.{from_whole}
use Rattle.double.specs.laws.WholePart.{from_whole_exact}
use Rattle.signed.specs.rules.Signed.{negative}
use Rattle.calendar.specs.rules.Julian.{day_in_millis, plus, millis_of, julian_of}
use Rattle.calendar.specs.notions.Computed.{computed}

bool_apart : ◌≡◌ {A = Bool} true false → {P : Type 0} → P
bool_apart e = absurd (let z : ◌≡◌ {A = ℕ} 0 1 = cc in omega arith)

not_zero : (n u d b : ℕ) → n * u * 1 ≡ b * d → 0 < b * d → n ≢ 0
not_zero n u d b e h z =
    let none : n * u * 1 ≡ 0 = ap (λ (k : ℕ). k * u * 1) z ∙ ap (λ (k : ℕ). k * 1) (zero-mul u) in
    omega arith

same_fraction : (x y a b c d : ℕ) → x * 1 ≡ a * c → y * 1 ≡ b * d → x * d * b ≡ a * (y * c)
same_fraction x y a b c d e f =
    let p : x ≡ a * c = omega arith in
    let q : y ≡ b * d = omega arith in
    rw (p, q) (omega arith)

-- a quotient of whole numbers
pub quotient_rounded : (x y : Float) (a b : ℕ) → 0 < b → HasValue x false a 1 → HasValue y false b 1 → x ⊘ y ≡ round binary64 false a b
unfolding div
quotient_rounded nan y a b h v w = absurd v
quotient_rounded (inf s) y a b h v w = absurd v
quotient_rounded (fin s m e) nan a b h v w = absurd w
quotient_rounded (fin s m e) (inf t) a b h v w = absurd w
quotient_rounded (fin true m e) (fin t n d) a b h v w = bool_apart v.0
quotient_rounded (fin false m e) (fin true n d) a b h v w = bool_apart w.0
quotient_rounded (fin false m e) (fin false n d) a b h v w =
    let some = mul-pos h (down_pos d) in
    let there = not_zero n (up d) (down d) b w.1 some in
    let below : 0 < n * up d * down e = mul-pos (omega (arith, w.1, some)) (down_pos e) in
    rw (ne_eqb n 0 there)
    (round_same binary64 false (m * up e * down d) (n * up d * down e) a b below h (same_fraction (m * up e) (n * up d) a b (down e) (down d) v.1 w.1))

day_exact : HasValue day_in_millis false 86400000 1
unfolding of_bits
day_exact = (refl, refl)

-- the whole number is 86400000·number + millis + dut1 − 43200000, where that is not below zero
module _ (number millis : ℕ) (z : ℤ) (from : 1 ≤ number) (small : unsigned_abs z ≤ 900) where
  pub millis_earlier : negative z ≡ true → millis_of number millis z + unsigned_abs z + 43200000 ≡ 86400000 * number + millis
  unfolding millis_of
  millis_earlier e = rw e (omega arith)

  pub millis_later : negative z ≡ false → millis_of number millis z + 43200000 ≡ 86400000 * number + millis + unsigned_abs z
  unfolding millis_of
  millis_later e = rw e (omega arith)

plus_most : (n : ℕ) (z : ℤ) → unsigned_abs z ≤ 900 → plus n z ≤ n + 900
plus_most n z h = by_sign (negative z)
  where
    by_sign : (b : Bool) → cond b (n - unsigned_abs z) (n + unsigned_abs z) ≤ n + 900
    by_sign true = omega arith
    by_sign false = omega arith

millis_most : (number millis : ℕ) (z : ℤ) → number ≤ 10000000 → millis < 86400000 → unsigned_abs z ≤ 900 → millis_of number millis z ≤ 2 ^ 53
unfolding millis_of
millis_most number millis z h k s = omega (arith, plus_most (86400000 * number + millis) z s)

pub julian_rounded : (number millis : ℕ) (z : ℤ) → number ≤ 10000000 → millis < 86400000 → unsigned_abs z ≤ 900
    → julian_of number millis z ≡ round binary64 false (millis_of number millis z) 86400000
unfolding julian_of
julian_rounded number millis z h k s =
    let n = millis_of number millis z in
    quotient_rounded (from_whole n) day_in_millis n 86400000 (omega arith) (from_whole_exact n (millis_most number millis z h k s)) day_exact

-- 2000-01-01 at 0h and at noon
pub julian_2000 : julian_of 2451545 0 (pos 0) ≡ decimal 24515445 1
unfolding computed
julian_2000 = refl

pub julian_noon : julian_of 2451545 43200000 (pos 0) ≡ decimal 2451545 0
unfolding computed
julian_noon = refl

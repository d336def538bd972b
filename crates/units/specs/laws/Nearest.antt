-- Below 2^53 the rounding of the rules gives the nearest whole number, since the difference on which it goes is exact.
use Rattle.std.specs.Prelude.{◌≡◌, ℕ, zero, suc, ◌+◌, ◌-◌, ◌*◌, ◌%◌, ◌^◌, ◌<◌, ◌≤◌, Bool, true, false, not, ◌&&◌, T, ℤ, pos, negsuc, nat_eq, nat_le, nat_lt, refl, Float}
use Rattle.std.proofs.Common.{sym, ap, ◌∙◌, subst, mul-pos, mul-one, mul-le-mul_right, le_of_mul-le-mul_right, lt_of_le_of_lt, lt_of_not-le, arith, ltb→lt, leb→le, lt-ltb}
use Rattle.std.specs.Float.{nan, inf, fin}
use Rattle.std.specs.Float.Ieee.{binary64, prec, emax, low, up, down, le, round, fits, of_bits}
use Rattle.std.specs.Float.Ieee.Fits.{and_l, and_r, down_pos}
use Rattle.std.specs.Float.Ieee.Scale.{round_same}
use Rattle.std.specs.Float.Ieee.Positive.{den, den_pos}
use Rattle.double.specs.rules.Operations.{half, ◌⊖◌}
use Rattle.double.specs.rules.Sign.{is_finite}
use Rattle.double.specs.rules.Order.{Finite, Plus}
use Rattle.double.specs.rules.Whole.{whole_part, from_whole, IsWholePart}
use Rattle.double.specs.notions.Fraction.{plus_part, minus_part, Signed, Rounds}
use Rattle.double.specs.notions.Grid.{Parts}
use Rattle.double.specs.laws.Tests.{by_test}
use Rattle.double.specs.laws.Order.{le→below, below→le}
use Rattle.double.specs.laws.Rounding.{round_zero}
use Rattle.double.specs.laws.Fraction.{sub_rounds}
use Rattle.double.specs.laws.Grid.{parts_of_value}
use Rattle.double.specs.laws.NearZero.{scaled_value}
use Rattle.double.specs.laws.WholePart.{whole_part_true, from_whole_exact}
use Rattle.units.specs.rules.Nearest.{nearest_whole}
use Rattle.units.specs.notions.Nearest.{IsNearest}

-- ---- a half against a / c

-- over another fraction of the same value
half_of_other : (p d a c : ℕ) → 0 < d → p * c ≡ a * d → d ≤ p * 2 → c ≤ 2 * a
half_of_other p d a c D e h =
    le_of_mul-le-mul_right {m = c} {n = 2 * a} {k = d} (omega (arith, mul-le-mul_right {m = d} {n = p * 2} c h, e)) D

half_from_other : (p d a c : ℕ) → 0 < c → p * c ≡ a * d → c ≤ 2 * a → d ≤ p * 2
half_from_other p d a c C e h =
    le_of_mul-le-mul_right {m = d} {n = p * 2} {k = c} (omega (arith, mul-le-mul_right {m = c} {n = 2 * a} d h, e)) C

module _ (z : Float) (a c : ℕ) (C : 0 < c) (p : Parts z a c) where
  half_under : T (le half z) → c ≤ 2 * a
  unfolding is_finite of_bits
  half_under t =
      let h = le→below half z tt p.finite t in
      half_of_other (plus_part z) (den z) a c (den_pos z) p.some (omega (arith, h, p.none))

  half_over : c ≤ 2 * a → T (le half z)
  unfolding is_finite of_bits
  half_over h =
      let k = half_from_other (plus_part z) (den z) a c C p.some h in
      below→le half z tt p.finite (omega (arith, k, p.none))

-- ---- the difference is exact

zero_parts : (s : Bool) (c : ℕ) → Parts (fin s 0 (pos 0)) 0 c
unfolding is_finite
zero_parts true c = record { finite = tt; none = refl; some = omega arith }
zero_parts false c = record { finite = tt; none = refl; some = omega arith }

-- r · 2^e, a part of m · 2^e below 1, is its own rounding
part_of_value : (m : ℕ) (e : ℤ) → T (fits binary64 (fin false m e)) → (r b : ℕ) → 0 < r → r < down e → r ≤ m * up e → 0 < b
    → Parts (round binary64 false (r * b) (down e * b)) r (down e)
unfolding fits
part_of_value m (pos k) F r b some few part B = absurd (omega arith)
part_of_value zero (negsuc k) F r b some few part B = absurd (omega arith)
part_of_value (suc m) (negsuc k) F r b some few part B =
    let e = negsuc k in
    let odd = nat_eq (suc m % 2) 1 in
    let short = nat_lt (suc m) (2 ^ prec binary64) in
    let fine = nat_le (down e) (2 ^ low binary64) in
    let small = nat_lt (suc m * up e) (2 ^ suc (emax binary64) * down e) in
    let first = and_l (odd && short && fine) small F in
    let below : r ≤ suc m = omega arith in
    let value =
    scaled_value binary64 false r e
    (lt_of_le_of_lt below (ltb→lt (suc m) (2 ^ prec binary64) (and_r odd short (and_l (odd && short) fine first))))
    (leb→le (down e) (2 ^ low binary64) (and_r (odd && short) fine first))
    (lt_of_le_of_lt (mul-le-mul_right 1 below) (ltb→lt (suc m * up e) (2 ^ suc (emax binary64) * down e) (and_r (odd && short && fine) small F))) in
    let same = round_same binary64 false (r * b) (down e * b) (r * 1) (down e) (mul-pos (down_pos e) B) (down_pos e) (omega arith) in
    subst (λ (a : ℕ). Parts (round binary64 false (r * b) (down e * b)) a (down e)) (mul-one r)
    (subst (λ (x : Float). Parts x (r * 1) (down e)) (sym same) (parts_of_value _ (r * 1) (down e) value))

-- what is left of m · 2^e, which fits, above the whole number W
module _ (m : ℕ) (e : ℤ) (F : T (fits binary64 (fin false m e))) (w r : ℕ) (left : m * up e ≡ w * down e + r) (few : r < down e)
    (W : Float) (whole : Parts W w 1) where
  abbrev rest : Float
  rest = fin false m e ⊖ W

  abbrev above : ℕ
  above = m * up e * den W + minus_part W * down e

  abbrev below : ℕ
  below = 0 * den W + plus_part W * down e

  rounded : Rounds binary64 rest above below (down e * den W)
  unfolding is_finite
  rounded = sub_rounds binary64 (fin false m e) W tt whole.finite

  -- over the denominator of both
  difference : above ≡ below + r * den W
  difference =
      omega (arith, ap (λ (x : ℕ). x * den W) left, ap (λ (x : ℕ). x * down e) whole.some, ap (λ (x : ℕ). x * down e) whole.none)

  rest_parts : Parts rest r (down e)
  rest_parts = by_left r refl
    where
      some : (k : ℕ) → r ≡ suc k → (s : Bool) (top : ℕ) → rest ≡ round binary64 s top (down e * den W) → Signed s above below top
          → Parts rest r (down e)
      some k q false top i v =
          let t : top ≡ r * den W = omega (arith, difference) in
          subst (λ (x : Float). Parts x r (down e)) (sym (i ∙ ap (λ (n : ℕ). round binary64 false n (down e * den W)) t))
          (part_of_value m e F r (den W) (omega arith) few (omega arith) (den_pos W))
      some k q true top i v = absurd (omega (arith, difference, mul-pos {m = r} {n = den W} (omega arith) (den_pos W)))

      none : r ≡ 0 → (s : Bool) (top : ℕ) → rest ≡ round binary64 s top (down e * den W) → Signed s above below top
          → Parts rest r (down e)
      none q s top i v =
          let t : top ≡ 0 = no_top s v in
          subst (λ (x : Float). Parts x r (down e))
          (sym (i ∙ ap (λ (n : ℕ). round binary64 s n (down e * den W)) t ∙ round_zero binary64 s (down e * den W)))
          (subst (λ (n : ℕ). Parts (fin s 0 (pos 0)) n (down e)) (sym q) (zero_parts s (down e)))
        where
          no_top : (s : Bool) → Signed s above below top → top ≡ 0
          no_top false v = omega (arith, difference, ap (λ (x : ℕ). x * den W) q)
          no_top true v = omega (arith, difference, ap (λ (x : ℕ). x * den W) q)

      by_left : (k : ℕ) → r ≡ k → Parts rest r (down e)
      by_left zero q = none q rounded.sign rounded.top rounded.is rounded.value
      by_left (suc k) q = some k q rounded.sign rounded.top rounded.is rounded.value

-- ---- the nearest

-- of w and a rest r over d: w + 1 from a half on, and w below it
module _ (n w d r : ℕ) (left : n ≡ w * d + r) (few : r < d) where
  raised : d ≤ 2 * r → (2 * ((w + 1) * d) ≤ 2 * n + d) × (2 * n < 2 * ((w + 1) * d) + d)
  raised h = (omega arith, omega arith)

  rounds_down : 2 * r < d → (2 * (w * d) ≤ 2 * n + d) × (2 * n < 2 * (w * d) + d)
  rounds_down h = (omega arith, omega arith)

not_both : (b : Bool) → T (not b) → T b → ⊥
not_both true t u = t
not_both false t u = u

pub nearest_true : (y : Float) → T (fits binary64 y) → Finite y → Plus y → whole_part y < 9007199254740992 → IsNearest (nearest_whole y) y
unfolding nearest_whole is_finite
nearest_true nan F p q h = absurd p
nearest_true (inf s) F p q h = absurd p
nearest_true (fin true m e) F p q h = absurd q
nearest_true (fin false m e) F p q h =
    rw (lt-ltb w 9007199254740992 h)
    (by_test (λ (n : ℕ). IsNearest n y) (le half rest-of-y) (w + 1) w
    (λ t. let k = raised (m * up e) w d r left few (half_under rest-of-y r d (down_pos e) parts t) in
    record { finite = tt; plus = tt; under = k.0; over = k.1 })
    (λ t. let k = rounds_down (m * up e) w d r left few (lt_of_not-le (λ (g : d ≤ 2 * r). not_both (le half rest-of-y) t (half_over rest-of-y r d (down_pos e) parts g))) in
    record { finite = tt; plus = tt; under = k.0; over = k.1 }))
  where
    y : Float
    y = fin false m e

    w : ℕ
    w = whole_part y

    d : ℕ
    d = down e

    r : ℕ
    r = m * up e - w * d

    rest-of-y : Float
    rest-of-y = y ⊖ from_whole w

    part : IsWholePart w y
    part = whole_part_true y tt tt (omega arith)

    left : m * up e ≡ w * d + r
    left = omega (arith, part.under)

    few : r < d
    few = omega (arith, part.under, part.over)

    parts : Parts rest-of-y r d
    parts = rest_parts m e F w r left few (from_whole w) (parts_of_value (from_whole w) w 1 (from_whole_exact w (omega arith)))

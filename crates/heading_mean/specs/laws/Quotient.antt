-- A sum in two parts over a count: rounded once, it stands to a whole number as the quotient does.
use Rattle.std.specs.Prelude.{◌≡◌, refl, ◌⊎◌, true, false, ℕ, zero, suc, ◌+◌, ◌-◌, ◌*◌, ◌^◌, ◌≤◌, ◌<◌, T, pos, ◌-ℤ◌, Float}
use Rattle.std.proofs.Common.{sym, ap, subst, inl, inr, mul-le-mul_right, mul-pos, arith, lt→ltb}
use Rattle.std.specs.Float.{nan, inf, fin, binary64}
use Rattle.std.specs.Float.Ieee.{neg, of_int, up, down}
use Rattle.std.specs.Float.Ieee.Fits.{down_pos}
use Rattle.std.specs.Float.Ieee.Positive.{num, den, den_pos, positive}
use Rattle.double.specs.rules.Operations.{◌⊘◌}
use Rattle.double.specs.rules.Sign.{is_finite}
use Rattle.double.specs.rules.Order.{◌≼◌}
use Rattle.double.specs.rules.Whole.{from_whole}
use Rattle.double.specs.notions.Fraction.{plus_part, minus_part, Rounds}
use Rattle.double.specs.notions.Grid.{Parts}
use Rattle.double.specs.laws.Numbers.{less_or_not}
use Rattle.double.specs.laws.Rounding.{round_neg}
use Rattle.double.specs.laws.Fraction.{rounds_mono, div_rounds, plus_all}
use Rattle.double.specs.laws.Grid.{parts_of_value}
use Rattle.double.specs.laws.WholePart.{from_whole_exact, from_whole_plus}
use Rattle.heading_mean.specs.notions.Sum.{IsSum}
use Rattle.heading_mean.specs.laws.Sum.{sum_below, sum_above}

-- ---- as a fraction

-- it rounds a − b
sum_rounds : (a b : ℕ) → Rounds binary64 (of_int binary64 (pos a -ℤ pos b)) a b 1
unfolding of_int
sum_rounds a b = by_order (less_or_not a b)
  where
    low : a < b → Rounds binary64 (neg (from_whole (b - a))) a b 1
    low h = record { sign = true; top = b - a; is = sym (round_neg binary64 false (b - a) 1); value = omega arith }

    high : b ≤ a → Rounds binary64 (from_whole (a - b)) a b 1
    high h = record { sign = false; top = a - b; is = refl; value = omega arith }

    by_order : (a < b) ⊎ (b ≤ a) → Rounds binary64 (of_int binary64 (pos a -ℤ pos b)) a b 1
    by_order (inl h) = subst (λ (x : Float). Rounds binary64 x a b 1) (sum_below a b h) (low h)
    by_order (inr h) = subst (λ (x : Float). Rounds binary64 x a b 1) (sum_above a b h) (high h)

neg_sum : (x : Float) (a b : ℕ) → IsSum x a b → IsSum (neg x) b a
unfolding neg is_finite
neg_sum nan a b s = absurd s.finite
neg_sum (inf t) a b s = absurd s.finite
neg_sum (fin true m e) a b s = record { finite = tt; value = omega (arith, s.value) }
neg_sum (fin false m e) a b s = record { finite = tt; value = omega (arith, s.value) }

pub whole_parts : (n : ℕ) → n ≤ 2 ^ 53 → Parts (from_whole n) n 1
whole_parts n h = parts_of_value (from_whole n) n 1 (from_whole_exact n h)

whole_sum : (a b : ℕ) → b ≤ a → a ≤ 2 ^ 53 → IsSum (from_whole (a - b)) a b
whole_sum a b h A =
    let y = from_whole (a - b) in
    let w = whole_parts (a - b) (omega arith) in
    let k : a - b + b ≡ a = omega arith in
    record { finite = w.finite; value = omega (arith, w.none, w.some, ap (λ (n : ℕ). n * den y) k) }

pub sum_exact : (a b : ℕ) → a ≤ 2 ^ 53 → b ≤ 2 ^ 53 → IsSum (of_int binary64 (pos a -ℤ pos b)) a b
sum_exact a b A B = by_order (less_or_not a b)
  where
    by_order : (a < b) ⊎ (b ≤ a) → IsSum (of_int binary64 (pos a -ℤ pos b)) a b
    by_order (inl h) =
        subst (λ (x : Float). IsSum x a b) (sum_below a b h) (neg_sum (from_whole (b - a)) b a (whole_sum b a (omega arith) B))
    by_order (inr h) = subst (λ (x : Float). IsSum x a b) (sum_above a b h) (whole_sum a b h A)

-- ---- over a count

some_digits : (m u d n : ℕ) → m * u * 1 ≡ n * d → 0 < d → 0 < n → 0 < m
some_digits zero u d n e D h = absurd (omega (arith, mul-pos h D))
some_digits (suc m) u d n e D h = omega arith

pub positive_whole : (x : Float) (n : ℕ) → Parts x n 1 → 0 < n → T (positive x)
unfolding is_finite
positive_whole nan n p h = absurd p.finite
positive_whole (inf s) n p h = absurd p.finite
positive_whole (fin true m e) n p h = absurd (omega (arith, p.some, mul-pos h (down_pos e)))
positive_whole (fin false m e) n p h = lt→ltb 0 m (some_digits m (up e) (down e) n p.some (down_pos e) h)

-- a − b against p − n over c, by numerators and denominators
crossed : (a b c p n : ℕ) (P N d e : ℕ) → P + n * d ≡ N + p * d → a * c + n ≤ p + b * c → a * (c * e * d) + N * e * 1 ≤ P * e * 1 + b * (c * e * d)
crossed a b c p n P N d e v h =
    let k : a * c * d + N ≤ P + b * c * d = omega (arith, v, mul-le-mul_right {m = a * c + n} {n = p + b * c} d h) in
    omega (arith, mul-le-mul_right {m = a * c * d + N} {n = P + b * c * d} e k)

crossed_back : (a b c p n : ℕ) (P N d e : ℕ) → P + n * d ≡ N + p * d → p + b * c ≤ a * c + n → P * e * 1 + b * (c * e * d) ≤ a * (c * e * d) + N * e * 1
crossed_back a b c p n P N d e v h =
    let k : P + b * c * d ≤ a * c * d + N = omega (arith, v, mul-le-mul_right {m = p + b * c} {n = a * c + n} d h) in
    omega (arith, mul-le-mul_right {m = P + b * c * d} {n = a * c * d + N} e k)

module _ (p n c : ℕ) (P : p ≤ 2 ^ 53) (N : n ≤ 2 ^ 53) (C : 0 < c) (few : c ≤ 2 ^ 53) where
  abbrev x : Float
  x = of_int binary64 (pos p -ℤ pos n)

  abbrev y : Float
  y = from_whole c

  exact : IsSum x p n
  exact = sum_exact p n P N

  whole : Parts y c 1
  whole = whole_parts c few

  top : num y ≡ c * den y
  top = omega (arith, whole.some, plus_all y (from_whole_plus c))

  quotient : Rounds binary64 (x ⊘ y) (plus_part x * den y) (minus_part x * den y) (c * den y * den x)
  quotient =
      subst (λ (k : ℕ). Rounds binary64 (x ⊘ y) (plus_part x * den y) (minus_part x * den y) (k * den x)) top
      (div_rounds binary64 x y exact.finite (positive_whole y c whole C))

  under : 0 < c * den y * den x
  under = mul-pos (mul-pos C (den_pos y)) (den_pos x)

  -- a − b is not above it where it is none times the count
  pub quotient_from : (a b : ℕ) → a * c + n ≤ p + b * c → of_int binary64 (pos a -ℤ pos b) ≼ x ⊘ y
  quotient_from a b h =
      rounds_mono binary64 (of_int binary64 (pos a -ℤ pos b)) (x ⊘ y) a b 1 (plus_part x * den y) (minus_part x * den y) (c * den y * den x)
      (omega arith) under (sum_rounds a b) quotient (crossed a b c p n (plus_part x) (minus_part x) (den x) (den y) exact.value h)

  -- nor below it likewise
  pub quotient_to : (a b : ℕ) → p + b * c ≤ a * c + n → x ⊘ y ≼ of_int binary64 (pos a -ℤ pos b)
  quotient_to a b h =
      rounds_mono binary64 (x ⊘ y) (of_int binary64 (pos a -ℤ pos b)) (plus_part x * den y) (minus_part x * den y) (c * den y * den x) a b 1
      under (omega arith) quotient (sum_rounds a b) (crossed_back a b c p n (plus_part x) (minus_part x) (den x) (den y) exact.value h)

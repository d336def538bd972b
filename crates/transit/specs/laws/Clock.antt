-- A time by the clock lies within the day, not after the fraction and at most 3 m 56 s before it; a star culminates twice on a day where
-- its culmination is in the day's first 3 m 55 s, and once where it is past 3 m 56 s.
use Rattle.std.specs.Prelude.{ℕ, ◌*◌, ◌+◌, ◌-◌, ◌≤◌, ◌<◌, ◌≡◌, refl, Bool, true, false, not, T, Float}
use Rattle.std.proofs.Common.{mul-pos, mul-le-mul_left, mul-le-mul_right, le_of_mul-le-mul_right, arith, lit≤}
use Rattle.std.specs.Float.Ieee.{binary64, neg, add, div, le, lt, of_bits, round}
use Rattle.std.specs.Float.Ieee.Positive.{num, den, den_pos}
use Rattle.double.specs.rules.Operations.{zero, one, ◌⊖◌, ◌⊘◌}
use Rattle.double.specs.rules.Sign.{is_finite}
use Rattle.double.specs.rules.Order.{◌≼◌, Between}
use Rattle.double.specs.rules.Table.{decimal, over}
use Rattle.double.specs.notions.Range.{known, con, ◌⊞◌, ◌⧄◌}
use Rattle.double.specs.notions.Fraction.{plus_part, minus_part}
use Rattle.double.specs.laws.Order.{le→below, le_trans, le_of_not_lt}
use Rattle.double.specs.laws.Interval.{bounded}
use Rattle.double.specs.laws.Fraction.{rounds_mono, sub_rounds, div_rounds}
use Rattle.transit.specs.rules.Clock.{sidereal_days, clock_of, again_of}

pub sidereal_days_lem : sidereal_days ≡ decimal 100273790935 11
unfolding of_bits round
sidereal_days_lem = refl

-- 3 m 56 s and 3 m 55 s, as parts of a day
abbrev pub lead : Float
lead = over 236 86400

-- ---- within the day

-- f of (p − n)/e from 0 to 1, less a/l, against f over m/d: over whole numbers
near : (p n e a l m d : ℕ) → p ≤ e + n → n ≤ p → l * m ≤ a * m + l * d
    → (p * l + 0 * e) * (m * e) + n * d * (e * l) ≤ p * d * (e * l) + (n * l + a * e) * (m * e)
near p n e a l m d up low k = spread (p - n) (omega arith)
  where
    -- x is p − n
    times : (x : ℕ) → x ≤ e → x * (l * m) ≤ e * (a * m) + x * (l * d)
    times x h = omega (arith, mul-le-mul_left x k, mul-le-mul_right (a * m) h)

    raised : (x : ℕ) → x ≤ e → x * (l * m) * e ≤ (e * (a * m) + x * (l * d)) * e
    raised x h = mul-le-mul_right e (times x h)

    opened : (x : ℕ) → x * (l * m) * e ≤ (e * (a * m) + x * (l * d)) * e
        → ((n + x) * l + 0 * e) * (m * e) + n * d * (e * l) ≤ (n + x) * d * (e * l) + (n * l + a * e) * (m * e)
    opened x h = omega arith

    spread : (x : ℕ) → p ≡ n + x
        → (p * l + 0 * e) * (m * e) + n * d * (e * l) ≤ p * d * (e * l) + (n * l + a * e) * (m * e)
    spread x s = rw s (opened x (raised x (omega arith)))

not_above : (o p n e : ℕ) → 0 < o → p * o + 0 * e ≤ o * e + n * o → p ≤ e + n
not_above o p n e s h = le_of_mul-le-mul_right (omega arith) s

not_below : (z p n e : ℕ) → 0 < z → 0 * e + n * z ≤ p * z + 0 * e → n ≤ p
not_below z p n e s h = le_of_mul-le-mul_right (omega arith) s

module _ (f : Float) (day : Between zero one f) where
  pub clock_within_the_day : Between zero one (clock_of f)
  unfolding is_finite le neg div of_bits round
  clock_within_the_day = bounded binary64 zero one (known day ⧄ con sidereal_days) tt

  -- not after the fraction less 3 m 56 s, the difference rounded once
  pub clock_near_the_fraction : (f ⊖ lead) ≼ clock_of f
  unfolding is_finite of_bits round
  clock_near_the_fraction =
      rounds_mono binary64 (f ⊖ lead) (clock_of f) _ _ _ _ _ _ (mul-pos (den_pos f) (den_pos lead)) (mul-pos (lit≤ tt) (den_pos f))
      (sub_rounds binary64 f lead day.finite tt) (div_rounds binary64 f sidereal_days day.finite tt)
      (near (plus_part f) (minus_part f) (den f) (plus_part lead) (den lead) (num sidereal_days) (den sidereal_days)
      (not_above (den one) _ _ _ (den_pos one) (le→below f one day.finite tt day.to)) (not_below (den zero) _ _ _ (den_pos zero) (le→below zero f tt day.finite day.from)) (lit≤ tt))

-- ---- twice on one day

-- 3 m 55 s
abbrev pub early : Float
early = over 235 86400

holds : (b : Bool) → (T (not b) → ⊥) → T b
holds true k = tt
holds false k = absurd (k tt)

pub culminates_twice : (c : Float) → Between zero early c → T (lt (again_of c) one)
unfolding is_finite le lt neg add div of_bits round
culminates_twice c day =
    let i = bounded binary64 zero (over 999999 1000000) (known day ⊞ con (one ⊘ sidereal_days)) tt in
    holds (lt (again_of c) one) (λ no. le_trans one (again_of c) (over 999999 1000000) (le_of_not_lt (again_of c) one i.finite tt no) i.to)

pub culminates_once : (c : Float) → Between lead one c → one ≼ again_of c
unfolding is_finite le neg add div of_bits round
culminates_once c day = (bounded binary64 one (over 2 1) (known day ⊞ con (one ⊘ sidereal_days)) tt).from

-- The remainder is exact: it is `IsRemainder` of every two finite doubles, the second not zero.
use Rattle.std.specs.Prelude.{◌≡◌, refl, ◌⊎◌, true, ℕ, zero, suc, ◌-◌, ◌*◌, ◌%◌, ◌^◌, ◌≤◌, ◌<◌, T, Float}
use Rattle.std.proofs.Common.{sym, subst, ◌∙◌, inl, inr, lt_irrefl, lt_trans, eq-zero-or-pos, zero-lt-suc, zero-mul, mod-lt, mod-eq_of_lt, arith, pow_pos}
use Rattle.std.specs.Int.Count.{count_leading_zeros}
use Rattle.std.specs.Float.{binary64}
use Rattle.std.specs.Float.Ieee.{fits}
use Rattle.double.specs.rules.Operations.{bits}
use Rattle.double.specs.rules.Sign.{bears_minus, negated_if, is_finite}
use Rattle.double.specs.rules.Count.{count}
use Rattle.double.specs.laws.Numbers.{less_or_not}
use Rattle.double.specs.laws.Patterns.{pattern_from_zero, count_low}
use Rattle.double.specs.laws.Raised.{raised}
use Rattle.remainder.specs.rules.Remainder.{remainder_of, IsRemainder}
use Rattle.remainder.specs.rules.Digits.{binary_places_of}
use Rattle.remainder.specs.laws.Digits.{count_order, rest_counts, pack_high, pack_low}
use Rattle.remainder.specs.laws.Remainder.{remainder_is_only, signed_remainder}
use Rattle.remainder.specs.notions.Steps.{size_pattern, Has}
use Rattle.remainder.specs.laws.Tests.{pattern_counts, counted_size}

-- ---- a double counts every number of 53 digits, with up to 2045 zeros

has_pattern : (r g : ℕ) → r < 2 ^ 53 → g ≤ 2045 → Has (r * 2 ^ g)
has_pattern zero g h l = record { pattern = 0; small = omega arith; is = count_low 0 (pow_pos 52) ∙ sym (zero-mul (2 ^ g)) }
has_pattern (suc r) g h l = go (less_or_not (count_leading_zeros 64 (suc r) - 11) g)
  where
    go : (count_leading_zeros 64 (suc r) - 11 < g) ⊎ (g ≤ count_leading_zeros 64 (suc r) - 11) → Has (suc r * 2 ^ g)
    go (inl a) =
        let z = raised (suc r) (zero-lt-suc r) h in
        let p = pack_high (suc r) g (count_leading_zeros 64 (suc r) - 11) z.least z.most a l in
        record { pattern = _; small = p.0; is = p.1 }
    go (inr a) =
        let z = raised (suc r) (zero-lt-suc r) h in
        let p = pack_low (suc r) g (count_leading_zeros 64 (suc r) - 11) z.most a in
        record { pattern = _; small = p.0; is = p.1 }

-- ---- so one counts what is left

module _ (x y : Float) (F : T (fits binary64 x)) (G : T (fits binary64 y)) (i : is_finite x ≡ true) (j : is_finite y ≡ true) (p : 0 < count y) where
  some : 0 < size_pattern y
  some = go (eq-zero-or-pos (size_pattern y))
    where
      go : (size_pattern y ≡ 0) ⊎ (0 < size_pattern y) → 0 < size_pattern y
      go (inl z) = absurd (lt_irrefl 0 (rw (sym (pattern_counts y G j), z, count_low 0 (pow_pos 52)) at p))
      go (inr h) = h

  has_rest : size_pattern y ≤ size_pattern x → Has (count x % count y)
  has_rest h =
      let first = counted_size x F i in
      let second = counted_size y G j in
      subst Has
      (rw (pattern_counts x F i, pattern_counts y G j) at (rest_counts first second some h))
      (has_pattern _ (binary_places_of (size_pattern y)) (lt_trans (mod-lt _ (second.some some)) second.few) second.room)

  pub remainder_is_exact : IsRemainder x y (remainder_of x y)
  remainder_is_exact = go (less_or_not (size_pattern x) (size_pattern y))
    where
      by : (r : Float) → IsRemainder x y r → IsRemainder x y (remainder_of x y)
      by r h = subst (IsRemainder x y) (remainder_is_only x y r F G i j p h) h

      go : (size_pattern x < size_pattern y) ⊎ (size_pattern y ≤ size_pattern x) → IsRemainder x y (remainder_of x y)
      go (inl l) =
          let k = rw (pattern_counts x F i, pattern_counts y G j) at (count_order (counted_size x F i) (counted_size y G j) l) in
          by x (record { held = F; finite = i; sign = refl; rest = sym (mod-eq_of_lt k) })
      go (inr l) =
          let h = has_rest l in
          by (negated_if (bears_minus x) (bits h.pattern))
          (signed_remainder x y (bits h.pattern) (pattern_from_zero h.pattern h.small) h.is)

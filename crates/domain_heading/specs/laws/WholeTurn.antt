-- Two fractions that are 360 together, neither below zero, are 360 within 2^−44 when each is rounded, and their sum again: between the same two
-- points of a grid of that step lie a fraction and its rounding.
use Rattle.std.specs.Prelude.{ℕ, suc, ◌+◌, ◌-◌, ◌*◌, ◌/◌, ◌%◌, ◌^◌, ◌≤◌, ◌<◌, ◌≡◌, refl, ◌⊎◌, Float}
use Rattle.std.proofs.Common.{mul-pos, mod-lt, div-add-mod', mul-le-mul_right, le_of_mul-le-mul_right, arith, ap, subst, ◌∙◌, inl, inr, lit≤}
use Rattle.std.specs.Float.{binary64}
use Rattle.std.specs.Float.Ieee.{of_bits, round}
use Rattle.std.specs.Float.Ieee.Positive.{den, den_pos}
use Rattle.double.specs.rules.Operations.{◌⊕◌}
use Rattle.double.specs.rules.Order.{◌≼◌, Finite, Between}
use Rattle.double.specs.rules.Sign.{is_finite}
use Rattle.double.specs.notions.Fraction.{plus_part, minus_part, Rounds}
use Rattle.double.specs.notions.Grid.{grid}
use Rattle.double.specs.laws.Numbers.{less_or_not}
use Rattle.double.specs.laws.Fraction.{add_rounds}
use Rattle.double.specs.laws.Grid.{grid_under, grid_over, under_grid, over_grid}
use Rattle.double.specs.laws.Between.{between}
use Rattle.domain_heading.specs.notions.Mirror.{below_whole_turn, above_whole_turn}

-- ---- whole numbers: t and s are 360·d together, and k is how often d goes into t·u

module _ (t s d u : ℕ) (D : 0 < d) (whole : t + s ≡ 360 * d) where
  abbrev k : ℕ
  k = t * u / d

  k_under : k * d ≤ t * u
  k_under = upto (t * u / d * d) (t * u % d) (t * u) (div-add-mod' (t * u) d)
    where
      upto : (a b c : ℕ) → a + b ≡ c → a ≤ c
      upto a b c e = omega arith

  k_over : t * u ≤ suc k * d
  k_over = upto (t * u / d) (t * u % d) (t * u) d (div-add-mod' (t * u) d) (mod-lt (t * u) D)
    where
      upto : (q b c d : ℕ) → q * d + b ≡ c → b < d → c ≤ suc q * d
      upto q b c d e h = omega arith

  shared : t * u + s * u ≡ 360 * u * d
  shared = scaled t s (360 * d) u whole ∙ turned d u
    where
      scaled : (t s w u : ℕ) → t + s ≡ w → t * u + s * u ≡ w * u
      scaled t s w u e = omega (arith, ap (λ (x : ℕ). x * u) e)

      turned : (d u : ℕ) → 360 * d * u ≡ 360 * u * d
      turned d u = omega arith

  k_at_most : k ≤ 360 * u
  k_at_most = le_of_mul-le-mul_right (upto (k * d) (t * u) (s * u) (360 * u * d) k_under shared) D
    where
      upto : (a b c w : ℕ) → a ≤ b → b + c ≡ w → a ≤ w
      upto a b c w h e = omega arith

  rest_under : (l : ℕ) → l + suc k ≡ 360 * u → l * d ≤ s * u
  rest_under l e = from (l * d) (suc k * d) (t * u) (s * u) (360 * u * d) k_over shared (split l (suc k) (360 * u) d e)
    where
      split : (a b c d : ℕ) → a + b ≡ c → a * d + b * d ≡ c * d
      split a b c d e = omega (arith, ap (λ (x : ℕ). x * d) e)

      from : (a b c e w : ℕ) → c ≤ b → c + e ≡ w → a + b ≡ w → a ≤ e
      from a b c e w h f g = omega arith

  rest_over : (l : ℕ) → l + k ≡ 360 * u → s * u ≤ l * d
  rest_over l e = from (l * d) (k * d) (t * u) (s * u) (360 * u * d) k_under shared (split l k (360 * u) d e)
    where
      split : (a b c d : ℕ) → a + b ≡ c → a * d + b * d ≡ c * d
      split a b c d e = omega (arith, ap (λ (x : ℕ). x * d) e)

      from : (a b c e w : ℕ) → b ≤ c → c + e ≡ w → a + b ≡ w → e ≤ a
      from a b c e w h f g = omega arith

-- how often 2^−44 goes into 360
abbrev steps : ℕ
steps = 6333186975989760

-- ---- doubles: a is (p − n)/d rounded, and b is (q − m)/d

-- what two numbers have above points of the grid, their sum has above the sum of the points
both_under : (k l w u da pa na db pb nb : ℕ) → k * da + na * u ≤ pa * u → l * db + nb * u ≤ pb * u → w ≤ k + l
    → w * (da * db) + (na * db + nb * da) * u ≤ (pa * db + pb * da) * u
both_under k l w u da pa na db pb nb h h' i =
    omega (arith, mul-le-mul_right db h, mul-le-mul_right da h', mul-le-mul_right (da * db) i)

both_over : (k l w u da pa na db pb nb : ℕ) → pa * u ≤ k * da + na * u → pb * u ≤ l * db + nb * u → k + l ≤ w
    → (pa * db + pb * da) * u ≤ w * (da * db) + (na * db + nb * da) * u
both_over k l w u da pa na db pb nb h h' i =
    omega (arith, mul-le-mul_right db h, mul-le-mul_right da h', mul-le-mul_right (da * db) i)

module _ (a b : Float) (A : Finite a) (B : Finite b) where
  sum_over_points : (k l w : ℕ) → k < 2 ^ 53 → l < 2 ^ 53 → grid binary64 43 k ≼ a → grid binary64 43 l ≼ b → w ≤ k + l → grid binary64 43 w ≼ a ⊕ b
  sum_over_points k l w K L h h' i =
      grid_under binary64 43 w (a ⊕ b) _ _ (den a * den b) (mul-pos (den_pos a) (den_pos b)) (add_rounds binary64 a b A B)
      (both_under k l w (2 ^ 44) (den a) (plus_part a) (minus_part a) (den b) (plus_part b) (minus_part b)
      (under_grid binary64 43 k a K (lit≤ tt) A h) (under_grid binary64 43 l b L (lit≤ tt) B h') i)

  sum_under_points : (k l w : ℕ) → k < 2 ^ 53 → l < 2 ^ 53 → a ≼ grid binary64 43 k → b ≼ grid binary64 43 l → k + l ≤ w → a ⊕ b ≼ grid binary64 43 w
  sum_under_points k l w K L h h' i =
      grid_over binary64 43 w (a ⊕ b) _ _ (den a * den b) (mul-pos (den_pos a) (den_pos b)) (add_rounds binary64 a b A B)
      (both_over k l w (2 ^ 44) (den a) (plus_part a) (minus_part a) (den b) (plus_part b) (minus_part b)
      (over_grid binary64 43 k a K (lit≤ tt) A h) (over_grid binary64 43 l b L (lit≤ tt) B h') i)

lifted_under : (k n t u p d : ℕ) → k * d ≤ t * u → p ≡ n + t → k * d + n * u ≤ p * u
lifted_under k n t u p d h e = omega (arith, ap (λ (x : ℕ). x * u) e)

lifted_over : (k n t u p d : ℕ) → t * u ≤ k * d → p ≡ n + t → p * u ≤ k * d + n * u
lifted_over k n t u p d h e = omega (arith, ap (λ (x : ℕ). x * u) e)

below_is : grid binary64 43 (steps - 1) ≡ below_whole_turn
unfolding round of_bits
below_is = refl

above_is : grid binary64 43 (suc steps) ≡ above_whole_turn
unfolding round of_bits
above_is = refl

module _ (a b : Float) (A : Finite a) (B : Finite b) (p n q m d : ℕ) (D : 0 < d) (ra : Rounds binary64 a p n d) (rb : Rounds binary64 b q m d) (t s : ℕ) (from : p ≡ n + t) (from' : q ≡ m + s) (whole : t + s ≡ 360 * d) where
  abbrev at : ℕ
  at = t * 2 ^ 44 / d

  at_most : at ≤ steps
  at_most = k_at_most t s d (2 ^ 44) D whole

  first_under : grid binary64 43 at ≼ a
  first_under = grid_under binary64 43 at a p n d D ra (lifted_under at n t (2 ^ 44) p d (k_under t s d (2 ^ 44) D whole) from)

  first_over_lem : a ≼ grid binary64 43 (suc at)
  first_over_lem = grid_over binary64 43 (suc at) a p n d D ra (lifted_over (suc at) n t (2 ^ 44) p d (k_over t s d (2 ^ 44) D whole) from)

  second_under : (l : ℕ) → l * d ≤ s * 2 ^ 44 → grid binary64 43 l ≼ b
  second_under l h = grid_under binary64 43 l b q m d D rb (lifted_under l m s (2 ^ 44) q d h from')

  second_over : (l : ℕ) → s * 2 ^ 44 ≤ l * d → b ≼ grid binary64 43 l
  second_over l h = grid_over binary64 43 l b q m d D rb (lifted_over l m s (2 ^ 44) q d h from')

  sum_from : grid binary64 43 (steps - 1) ≼ a ⊕ b
  sum_from = by_case (less_or_not at steps)
    where
      by_case : (at < steps) ⊎ (steps ≤ at) → grid binary64 43 (steps - 1) ≼ a ⊕ b
      by_case (inl h) =
          sum_over_points a b A B at (steps - suc at) (steps - 1) (omega (arith, at_most)) (omega arith) first_under
          (second_under (steps - suc at) (rest_under t s d (2 ^ 44) D whole (steps - suc at) (omega (arith, h)))) (omega (arith, h))
      by_case (inr h) =
          sum_over_points a b A B at 0 (steps - 1) (omega (arith, at_most)) (omega arith) first_under (second_under 0 (omega arith)) (omega (arith, h))

  sum_to : a ⊕ b ≼ grid binary64 43 (suc steps)
  sum_to =
      sum_under_points a b A B (suc at) (steps - at) (suc steps) (omega (arith, at_most)) (omega arith) first_over_lem
      (second_over (steps - at) (rest_over t s d (2 ^ 44) D whole (steps - at) (omega (arith, at_most)))) (omega (arith, at_most))

  pub sum_near : Between below_whole_turn above_whole_turn (a ⊕ b)
  sum_near =
      between (unfold is_finite of_bits in tt) (unfold is_finite of_bits in tt) (subst (λ (y : Float). y ≼ a ⊕ b) below_is sum_from)
      (subst (λ (y : Float). a ⊕ b ≼ y) above_is sum_to)

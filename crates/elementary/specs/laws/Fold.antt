-- The fold of a size up to 400000.0: k is the true whole part of s, and what is left is 1 at most in size.
use Rattle.std.specs.Prelude.{◌≡◌, ◌⊎◌, ℕ, suc, ◌+◌, ◌-◌, ◌*◌, ◌^◌, ◌≤◌, ◌<◌, Bool, not, T, ltb, ℤ, Float}
use Rattle.std.proofs.Math.Path.{refl}
use Rattle.std.proofs.Common.{ap, inl, inr, le_trans, mul-pos, mul-le-mul_right, le_of_mul-le-mul_right, ltb→lt, nltb→le, lit<, pow_pos}
use native.Mathlib.Omega.{arith}
use Rattle.std.proofs.Math.Bool.{true, false}
use Rattle.std.proofs.Math.Dec.{lit≤}
use Rattle.std.specs.Float.Ieee.{nan, fin, binary64, up, down, round, neg, add, sub, mul, le, of_bits, of_int, to_unsigned}
use Rattle.std.specs.Float.{inf}
use Rattle.std.specs.Float.Ieee.Fits.{down_pos}
use Rattle.std.specs.Float.Ieee.Exact.{HasValue}
use Rattle.std.specs.Float.Ieee.Positive.{den, den_pos}
use Rattle.double.specs.rules.Operations.{bits, zero, half, one, two, ◌⊕◌, ◌⊖◌, ◌⊗◌}
use Rattle.double.specs.rules.Sign.{size, is_finite}
use Rattle.double.specs.rules.Order.{◌≼◌, Finite, Plus, Between}
use Rattle.double.specs.rules.Whole.{whole_part, from_whole, IsWholePart}
use Rattle.double.specs.rules.Table.{over, minus_over}
use Rattle.double.specs.notions.Fraction.{plus_part, minus_part}
use Rattle.double.specs.notions.Range.{known, con, ◌⊞◌, ◌⊟◌, ◌⊠◌}
use Rattle.double.specs.notions.Grid.{grid}
use Rattle.double.specs.laws.Order.{le_trans as le-trans-float}
use Rattle.double.specs.laws.Sign.{plus_size}
use Rattle.double.specs.laws.Between.{between, between_cut, size_between, finite_of_size, plus_of_positive}
use Rattle.double.specs.laws.Fraction.{minus_none, plus_all, rounds_mono, add_rounds, sub_rounds, mul_rounds}
use Rattle.double.specs.laws.Interval.{bounded}
use Rattle.double.specs.laws.Grid.{parts_of_value, grid_parts, grid_under, grid_over, under_grid, over_grid}
use Rattle.double.specs.laws.WholePart.{whole_part_mono, whole_part_true, from_whole_exact, from_whole_between}
use Rattle.quantity.specs.rules.Refusal.{steepest}
use Rattle.elementary.specs.rules.Fold.{I, P1, P2, P3, quarters, rest_at, rest}
use Rattle.elementary.specs.rules.Sine.{farthest_alone}

-- ---- s = a·I + 0.5, and its whole part

quotient_between : (a : Float) → Between zero farthest_alone a → Between zero (over 254648 1) (a ⊗ I)
unfolding is_finite le mul of_bits round
quotient_between a i = bounded binary64 zero (over 254648 1) (known i ⊠ con I) tt

sum_between : (a : Float) → Between zero farthest_alone a → Between half (over 509297 2) (a ⊗ I ⊕ half)
unfolding is_finite le mul add of_bits round
sum_between a i = bounded binary64 half (over 509297 2) (known i ⊠ con I ⊞ con half) tt

quarters_at_most : (a : Float) → Between zero farthest_alone a → quarters a ≤ 254648
quarters_at_most a i =
    let s = sum_between a i in
    le_trans
    (whole_part_mono (a ⊗ I ⊕ half) (over 509297 2) s.finite s.end (unfold round in tt) s.to)
    (unfold round to_unsigned in lit≤ tt)

quarters_true : (a : Float) → Between zero farthest_alone a → IsWholePart (quarters a) (a ⊗ I ⊕ half)
quarters_true a i =
    let s = sum_between a i in
    let h = quarters_at_most a i in
    whole_part_true (a ⊗ I ⊕ half) s.finite (plus_of_positive half (a ⊗ I ⊕ half) (unfold of_bits in tt) s.from) (omega arith)

-- an angle up to 400000.0 in size
folds : (x : Float) → size x ≼ farthest_alone → Between zero farthest_alone (size x)
folds x h = size_between x farthest_alone (unfold is_finite of_bits in tt) h

-- s lies from 1/2 and below 2^53
pub fold_near : (x : Float) → size x ≼ farthest_alone → (half ≼ (size x ⊗ I ⊕ half)) × ((size x ⊗ I ⊕ half) ≼ bits 0x433fffffffffffff)
fold_near x h =
    let s = sum_between (size x) (folds x h) in
    (s.from, le-trans-float (size x ⊗ I ⊕ half) (over 509297 2) (bits 0x433fffffffffffff) s.to (unfold le of_bits round in tt))

-- k is far below the cap of `whole_part`
pub fold_at_most : (x : Float) → size x ≼ farthest_alone → quarters (size x) ≤ 254648
fold_at_most x h = quarters_at_most (size x) (folds x h)

-- so it is the true whole part of s
pub fold_true : (x : Float) → size x ≼ farthest_alone → IsWholePart (quarters (size x)) (size x ⊗ I ⊕ half)
fold_true x h = quarters_true (size x) (folds x h)

-- and as a double it is itself
pub fold_exact : (x : Float) → size x ≼ farthest_alone → HasValue (from_whole (quarters (size x))) false (quarters (size x)) 1
fold_exact x h = let k = fold_at_most x h in from_whole_exact (quarters (size x)) (omega arith)

-- ---- a·I lies from k − 1/2 − 2^−21 to k + 1/2, exactly

less_or : (a b : ℕ) → (a < b) ⊎ (b ≤ a)
less_or a b = by_case (ltb a b) (ltb→lt a b) (nltb→le a b)
  where
    by_case : (t : Bool) → (T t → a < b) → (T (not t) → b ≤ a) → (a < b) ⊎ (b ≤ a)
    by_case true h k = inl (h tt)
    by_case false h k = inr (k tt)

-- what one more half does to a point
half_under : (k p n d : ℕ) → k * d + n * 2 ^ 21 ≤ p * 2 ^ 21 → (k + 2 ^ 20) * (d * 2) + (n * 2 + 0 * d) * 2 ^ 21 ≤ (p * 2 + 1 * d) * 2 ^ 21
half_under k p n d h = omega arith

half_over : (k p n d : ℕ) → p * 2 ^ 21 ≤ k * d + n * 2 ^ 21 → (p * 2 + 1 * d) * 2 ^ 21 ≤ (k + 2 ^ 20) * (d * 2) + (n * 2 + 0 * d) * 2 ^ 21
half_over k p n d h = omega arith

high_start : (x d n : ℕ) → (2 * n + 1) * 2 ^ 53 * d ≤ x * 5734161139222659 * 2
    → (n * 2 ^ 21 + 2 ^ 20) * (d * 2 ^ 53) + (x * 0 + 0 * 5734161139222659) * 2 ^ 21 ≤ (x * 5734161139222659 + 0 * 0) * 2 ^ 21
high_start x d n h = omega arith

high_end : (n d p z : ℕ) → z ≡ 0 → (n * 2 ^ 21 + 2 ^ 20 + 2 ^ 20) * d + z * 2 ^ 21 ≤ p * 2 ^ 21 → p < suc n * d → ⊥
high_end n d p z e h k = omega arith

low_start : (x d n : ℕ) → x * 5734161139222659 * 2 ^ 21 ≤ (n * 2 ^ 21 - 2 ^ 20 - 1) * 2 ^ 53 * d
    → (x * 5734161139222659 + 0 * 0) * 2 ^ 21 ≤ (n * 2 ^ 21 - 2 ^ 20 - 1) * (d * 2 ^ 53) + (x * 0 + 0 * 5734161139222659) * 2 ^ 21
low_start x d n h = omega arith

low_end : (n k d p z : ℕ) → z ≡ 0 → 0 < d → k + 1 ≡ n * 2 ^ 21 → p * 2 ^ 21 ≤ k * d + z * 2 ^ 21 → n * d ≤ p → ⊥
low_end n k d p z e D q h l = omega (arith, ap (λ (x : ℕ). x * d) q)

module _ (m : ℕ) (e : ℤ) (n : ℕ) (small : n ≤ 254648) (F : Finite (fin false m e ⊗ I)) (w : IsWholePart n (fin false m e ⊗ I ⊕ half)) where
  fold_high : m * up e * 5734161139222659 * 2 < (2 * n + 1) * 2 ^ 53 * down e
  fold_high = elim (less_or (m * up e * 5734161139222659 * 2) ((2 * n + 1) * 2 ^ 53 * down e)) [ inl h ↦ h | inr h ↦ absurd (no h) ]
    where
      no : (2 * n + 1) * 2 ^ 53 * down e ≤ m * up e * 5734161139222659 * 2 → ⊥
      no h =
          unfold is_finite of_bits in
          let a = fin false m e in
          let q = a ⊗ I in
          let s = q ⊕ half in
          let k = n * 2 ^ 21 + 2 ^ 20 in
          let t : grid binary64 20 k ≼ q = grid_under binary64 20 k q _ _ _ (mul-pos (down_pos e) (pow_pos 53)) (mul_rounds binary64 a I tt tt) (high_start (m * up e) (down e) n h) in
          let u = under_grid binary64 20 k q (omega arith) (lit≤ tt) F t in
          let t' : grid binary64 20 (k + 2 ^ 20) ≼ s = grid_under binary64 20 (k + 2 ^ 20) s _ _ _ (mul-pos (den_pos q) (pow_pos 1)) (add_rounds binary64 q half F tt) (half_under k (plus_part q) (minus_part q) (den q) u) in
          let u' = under_grid binary64 20 (k + 2 ^ 20) s (omega arith) (lit≤ tt) w.finite t' in
          high_end n (den s) (plus_part s) (minus_part s) (minus_none s w.plus) u' (rw (plus_all s w.plus) w.over)

  fold_low : 1 ≤ n → (n * 2 ^ 21 - 2 ^ 20 - 1) * 2 ^ 53 * down e < m * up e * 5734161139222659 * 2 ^ 21
  fold_low some = elim (less_or ((n * 2 ^ 21 - 2 ^ 20 - 1) * 2 ^ 53 * down e) (m * up e * 5734161139222659 * 2 ^ 21)) [ inl h ↦ h | inr h ↦ absurd (no h) ]
    where
      no : m * up e * 5734161139222659 * 2 ^ 21 ≤ (n * 2 ^ 21 - 2 ^ 20 - 1) * 2 ^ 53 * down e → ⊥
      no h =
          unfold is_finite of_bits in
          let a = fin false m e in
          let q = a ⊗ I in
          let s = q ⊕ half in
          let k = n * 2 ^ 21 - 2 ^ 20 - 1 in
          let t : q ≼ grid binary64 20 k = grid_over binary64 20 k q _ _ _ (mul-pos (down_pos e) (pow_pos 53)) (mul_rounds binary64 a I tt tt) (low_start (m * up e) (down e) n h) in
          let u = over_grid binary64 20 k q (omega arith) (lit≤ tt) F t in
          let t' : s ≼ grid binary64 20 (k + 2 ^ 20) = grid_over binary64 20 (k + 2 ^ 20) s _ _ _ (mul-pos (den_pos q) (pow_pos 1)) (add_rounds binary64 q half F tt) (half_over k (plus_part q) (minus_part q) (den q) u) in
          let u' = over_grid binary64 20 (k + 2 ^ 20) s (omega arith) (lit≤ tt) w.finite t' in
          low_end n (k + 2 ^ 20) (den s) (plus_part s) (minus_part s) (minus_none s w.plus) (den_pos s) (omega arith)
          u' (rw (plus_all s w.plus) w.under)

-- ---- k·P1 is exact

prod_under : (n pk nk dk : ℕ) → pk * 1 ≡ n * dk → nk ≡ 0
    → n * 1686629713 * (dk * 2 ^ 30) + (pk * 0 + nk * 1686629713) * 2 ^ 30 ≤ (pk * 1686629713 + nk * 0) * 2 ^ 30
prod_under n pk nk dk e z = omega arith

prod_over : (n pk nk dk : ℕ) → pk * 1 ≡ n * dk → nk ≡ 0
    → (pk * 1686629713 + nk * 0) * 2 ^ 30 ≤ n * 1686629713 * (dk * 2 ^ 30) + (pk * 0 + nk * 1686629713) * 2 ^ 30
prod_over n pk nk dk e z = omega arith

record Product (n : ℕ) (y : Float) : Type 0 where
  finite : Finite y
  is : plus_part y * 2 ^ 30 ≡ n * 1686629713 * den y + minus_part y * 2 ^ 30

product_exact : (n : ℕ) → n ≤ 254648 → Product n (from_whole n ⊗ P1)
unfolding is_finite of_bits
product_exact n h =
    let k = from_whole n in
    let y = k ⊗ P1 in
    let p = parts_of_value k n 1 (from_whole_exact n (omega arith)) in
    let c = n * 1686629713 in
    let g = grid_parts binary64 29 c (omega arith) (lit≤ tt) in
    let r = mul_rounds binary64 k P1 p.finite tt in
    let D = mul-pos (den_pos k) (pow_pos 30) in
    let t = grid_under binary64 29 c y _ _ _ D r (prod_under n (plus_part k) (minus_part k) (den k) p.some p.none) in
    let t' = grid_over binary64 29 c y _ _ _ D r (prod_over n (plus_part k) (minus_part k) (den k) p.some p.none) in
    let F = (between g.finite g.finite t t').finite in
    let u = under_grid binary64 29 c y (omega arith) (lit≤ tt) F t in
    let u' = over_grid binary64 29 c y (omega arith) (lit≤ tt) F t' in
    record { finite = F; is = same (plus_part y * 2 ^ 30) (c * den y + minus_part y * 2 ^ 30) u' u }
  where
    same : (a b : ℕ) → a ≤ b → b ≤ a → a ≡ b
    same a b h k = omega arith

-- ---- so a − k·P1 is 7/8 at most in size. 1/I is below 355/226, and above 103993/66204

by_ratio : (x d n : ℕ) → x * 5734161139222659 * 2 < (2 * n + 1) * 2 ^ 53 * d → x * 452 ≤ (2 * n + 1) * 355 * d
by_ratio x d n h = le_of_mul-le-mul_right (step h) (lit< {m = 0} {n = 5734161139222659} tt)
  where
    step : x * 5734161139222659 * 2 < (2 * n + 1) * 2 ^ 53 * d → x * 452 * 5734161139222659 ≤ (2 * n + 1) * 355 * d * 5734161139222659
    step h = omega arith

high_fraction : (x d n : ℕ) → n ≤ 254648 → x * 452 ≤ (2 * n + 1) * 355 * d → x * 2 ^ 33 ≤ (7 * 2 ^ 30 + 8 * n * 1686629713) * d
high_fraction x d n h k = omega (arith, mul-le-mul_right d h)

by_part : (x d k : ℕ) → k * 2 ^ 53 * d < x * 5734161139222659 * 2 ^ 21 → k * 103993 * d ≤ x * 2 ^ 21 * 66204
by_part x d k h = le_of_mul-le-mul_right (step h) (lit< {m = 0} {n = 5734161139222659} tt)
  where
    step : k * 2 ^ 53 * d < x * 5734161139222659 * 2 ^ 21 → k * 103993 * d * 5734161139222659 ≤ x * 2 ^ 21 * 66204 * 5734161139222659
    step h = omega arith

low_fraction : (x d n k : ℕ) → n ≤ 254648 → k + 2 ^ 20 + 1 ≡ n * 2 ^ 21 → k * 103993 * d ≤ x * 2 ^ 21 * 66204
    → 8 * n * 1686629713 * d ≤ x * 2 ^ 33 + 7 * 2 ^ 30 * d
low_fraction x d n k h e l = omega (arith, mul-le-mul_right d h, ap (λ (z : ℕ). z * d) e)

high_difference : (x d n py ny dy : ℕ) → py * 2 ^ 30 ≡ n * 1686629713 * dy + ny * 2 ^ 30
    → x * 2 ^ 33 ≤ (7 * 2 ^ 30 + 8 * n * 1686629713) * d
    → (x * dy + ny * d) * 2 ^ 3 ≤ 7 * (d * dy) + (0 * dy + py * d) * 2 ^ 3
high_difference x d n py ny dy e h = le_of_mul-le-mul_right (step (mul-le-mul_right dy h) (ap (λ (z : ℕ). z * d) e)) (pow_pos 30)
  where
    step : x * 2 ^ 33 * dy ≤ (7 * 2 ^ 30 + 8 * n * 1686629713) * d * dy → py * 2 ^ 30 * d ≡ (n * 1686629713 * dy + ny * 2 ^ 30) * d
        → (x * dy + ny * d) * 2 ^ 3 * 2 ^ 30 ≤ (7 * (d * dy) + (0 * dy + py * d) * 2 ^ 3) * 2 ^ 30
    step a b = omega arith

low_difference : (x d n py ny dy : ℕ) → py * 2 ^ 30 ≡ n * 1686629713 * dy + ny * 2 ^ 30
    → 8 * n * 1686629713 * d ≤ x * 2 ^ 33 + 7 * 2 ^ 30 * d
    → 0 * (d * dy) + (0 * dy + py * d) * 2 ^ 3 ≤ (x * dy + ny * d) * 2 ^ 3 + 7 * (d * dy)
low_difference x d n py ny dy e h = le_of_mul-le-mul_right (step (mul-le-mul_right dy h) (ap (λ (z : ℕ). z * d) e)) (pow_pos 30)
  where
    step : 8 * n * 1686629713 * d * dy ≤ (x * 2 ^ 33 + 7 * 2 ^ 30 * d) * dy → py * 2 ^ 30 * d ≡ (n * 1686629713 * dy + ny * 2 ^ 30) * d
        → (0 * (d * dy) + (0 * dy + py * d) * 2 ^ 3) * 2 ^ 30 ≤ ((x * dy + ny * d) * 2 ^ 3 + 7 * (d * dy)) * 2 ^ 30
    step a b = omega arith

first_rest : (m : ℕ) (e : ℤ) → Between zero farthest_alone (fin false m e)
    → Between (minus_over 7 8) (over 7 8) (fin false m e ⊖ from_whole (quarters (fin false m e)) ⊗ P1)
unfolding is_finite
first_rest m e i =
    let a = fin false m e in
    let n = quarters a in
    let small = quarters_at_most a i in
    let F = (quotient_between a i).finite in
    let w = quarters_true a i in
    let y = from_whole n ⊗ P1 in
    let p = product_exact n small in
    let r = sub_rounds binary64 a y tt p.finite in
    let D = mul-pos (down_pos e) (den_pos y) in
    between (unfold round in tt) (unfold round in tt)
    (rounds_mono binary64 (minus_over 7 8) (a ⊖ y) 0 7 8 _ _ _ (pow_pos 3) D (record { sign = true; top = 7; is = refl; value = refl }) r
    (low_difference (m * up e) (down e) n (plus_part y) (minus_part y) (den y) p.is (lowest (less_or 0 n) small F w)))
    (rounds_mono binary64 (a ⊖ y) (over 7 8) _ _ _ 7 0 8 D (pow_pos 3) r (record { sign = false; top = 7; is = refl; value = refl })
    (over-difference (m * up e) (down e) (plus_part y) (minus_part y) (den y)
    (high_difference (m * up e) (down e) n (plus_part y) (minus_part y) (den y) p.is
    (high_fraction (m * up e) (down e) n small (by_ratio (m * up e) (down e) n (fold_high m e n small F w))))))
  where
    over-difference : (x d py ny dy : ℕ) → (x * dy + ny * d) * 2 ^ 3 ≤ 7 * (d * dy) + (0 * dy + py * d) * 2 ^ 3
        → (x * dy + ny * d) * 8 + 0 * (d * dy) ≤ 7 * (d * dy) + (0 * dy + py * d) * 8
    over-difference x d py ny dy h = omega arith

    none : (x d n : ℕ) → n ≤ 0 → 8 * n * 1686629713 * d ≤ x * 2 ^ 33 + 7 * 2 ^ 30 * d
    none x d n h = let z : n ≡ 0 = omega arith in rw z (omega arith)

    lowest : {n : ℕ} → (0 < n) ⊎ (n ≤ 0) → n ≤ 254648 → Finite (fin false m e ⊗ I) → IsWholePart n (fin false m e ⊗ I ⊕ half)
        → 8 * n * 1686629713 * down e ≤ m * up e * 2 ^ 33 + 7 * 2 ^ 30 * down e
    lowest {n} (inl h) small F w =
        let k = n * 2 ^ 21 - 2 ^ 20 - 1 in
        low_fraction (m * up e) (down e) n k small (omega arith) (by_part (m * up e) (down e) k (fold_low m e n small F w (omega arith)))
    lowest {n} (inr h) small F w = none (m * up e) (down e) n h

-- ---- what the fold leaves

last_rest : (z : Float) (n : ℕ) → n ≤ 254648 → Between (minus_over 7 8) (over 7 8) z
    → Between (neg one) one ((z ⊖ from_whole n ⊗ P2) ⊖ from_whole n ⊗ P3)
unfolding is_finite le neg add sub mul of_bits of_int round
last_rest z n h i =
    let k = known (from_whole_between n 254648 h (lit≤ tt)) in
    bounded binary64 (neg one) one ((known i ⊟ k ⊠ con P2) ⊟ k ⊠ con P3) tt

-- 1 at most in size
pub rest_at_most_one : (x : Float) → size x ≼ farthest_alone → Between (neg one) one (rest (size x))
rest_at_most_one x h =
    of-plus (size x) (folds x h) (plus_size x (finite_of_size x farthest_alone (unfold is_finite of_bits in tt) h))
  where
    of-plus : (a : Float) → Between zero farthest_alone a → Plus a → Between (neg one) one (rest a)
    of-plus nan i p = absurd p
    of-plus (inf s) i p = absurd (unfold is_finite in i.finite)
    of-plus (fin true m e) i p = absurd p
    of-plus (fin false m e) i p =
        let a = fin false m e in
        last_rest (a ⊖ from_whole (quarters a) ⊗ P1) (quarters a) (quarters_at_most a i) (first_rest m e i)

-- ---- up to 1.57 k is 0 or 1

-- a little above and a little below where k becomes 1
abbrev late : Float
late = over 1609 2048

abbrev early : Float
early = over 201 256

steep_sum : (a : Float) → Between zero steepest a → Between half (over 3 2) (a ⊗ I ⊕ half)
unfolding is_finite le mul add of_bits round
steep_sum a i = bounded binary64 half (over 3 2) (known i ⊠ con I ⊞ con half) tt

quarters_up_to : (a most : Float) (n : ℕ) → Between half most (a ⊗ I ⊕ half) → Plus most → whole_part most ≤ n → quarters a ≤ n
quarters_up_to a most n s p h = le_trans (whole_part_mono (a ⊗ I ⊕ half) most s.finite s.end p s.to) h

steep_quarters : (a : Float) → Between zero steepest a → quarters a ≤ 1
steep_quarters a i = quarters_up_to a (over 3 2) 1 (steep_sum a i) (unfold round in tt) (unfold round to_unsigned in lit≤ tt)

early_quarters : (a : Float) → Between zero early a → quarters a ≤ 0
unfolding is_finite le mul add of_bits round
early_quarters a i =
    quarters_up_to a (over 16383 16384) 0 (bounded binary64 half (over 16383 16384) (known i ⊠ con I ⊞ con half) tt) tt
    (unfold to_unsigned in lit≤ tt)

one_whole : 1 ≤ whole_part one
unfolding to_unsigned of_bits
one_whole = lit≤ tt

late_quarters : (a : Float) → Between late steepest a → 1 ≤ quarters a
unfolding is_finite le mul add of_bits round
late_quarters a i =
    let s = bounded binary64 one two (known i ⊠ con I ⊞ con half) tt in
    le_trans one_whole
    (whole_part_mono one (a ⊗ I ⊕ half) tt s.finite (plus_of_positive one (a ⊗ I ⊕ half) tt s.from) s.from)

-- r for each of the two
rest_none : (a : Float) → Between zero late a → Between zero late (rest_at a 0)
unfolding is_finite le neg mul add sub of_bits of_int round
rest_none a i =
    let k = con (from_whole 0) in
    bounded binary64 zero late (((known i ⊟ k ⊠ con P1) ⊟ k ⊠ con P2) ⊟ k ⊠ con P3) tt

rest_first : (a : Float) → Between early steepest a → Between (minus_over 405 512) (minus_over 3 4096) (rest_at a 1)
unfolding is_finite le neg mul add sub of_bits of_int round
rest_first a i =
    let k = con (from_whole 1) in
    bounded binary64 (minus_over 405 512) (minus_over 3 4096) (((known i ⊟ k ⊠ con P1) ⊟ k ⊠ con P2) ⊟ k ⊠ con P3) tt

-- an angle up to 1.57 folds into none and a rest up to π/4, or into one quarter and a rest below zero
pub fold_steep : (a : Float) → Between zero steepest a
    → ((quarters a ≡ 0) × Between zero (over 1609 2048) (rest a)) ⊎
    ((quarters a ≡ 1) × Between (minus_over 405 512) (minus_over 3 4096) (rest a))
fold_steep a i = by_number (quarters a) refl (steep_quarters a i)
  where
    finite-late : Finite late
    finite-late = unfold is_finite round in tt

    finite-early : Finite early
    finite-early = unfold is_finite round in tt

    by_number : (n : ℕ) → quarters a ≡ n → n ≤ 1
        → ((n ≡ 0) × Between zero late (rest_at a n)) ⊎ ((n ≡ 1) × Between (minus_over 405 512) (minus_over 3 4096) (rest_at a n))
    by_number ℕ.zero e h =
        elim (between_cut late finite-late i) [
          | inl j ↦ inl (refl, rest_none a j)
          | inr j ↦ let k = late_quarters a j in absurd (omega arith)
        ]
    by_number (suc ℕ.zero) e h =
        elim (between_cut early finite-early i) [
          | inl j ↦ let k = early_quarters a j in absurd (omega arith)
          | inr j ↦ inr (refl, rest_first a j)
        ]
    by_number (suc (suc n)) e h = absurd (omega arith)

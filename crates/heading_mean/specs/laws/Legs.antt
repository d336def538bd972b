-- A sight that agrees with a reference lies within 1000.1 seconds of it on the circle, exactly, and so does the mean.
use Rattle.std.specs.Prelude.{◌≡◌, refl, ◌⊎◌, Bool, true, false, cond, ℕ, ◌+◌, ◌*◌, ◌≤◌, ◌<◌, T}
use Rattle.std.proofs.Common.{sym, inl, inr, arith}
use Rattle.std.proofs.Math.Path.{subst}
use Rattle.std.proofs.Math.Dec.{nltb→le, lit≤}
use Rattle.std.specs.Float.Ieee.{Float, binary64, neg, sub, mul, le, lt, fits, round, of_bits, to_unsigned}
use Rattle.std.specs.Float.Ieee.Fits.{sub-fits, add-fits}
use Rattle.std.specs.Float.Ieee.Positive.{den, den_pos}
use Rattle.double.specs.rules.Operations as operations
use Rattle.double.specs.rules.Operations.{bits, ◌⊕◌, ◌⊖◌}
use Rattle.double.specs.rules.Sign.{size, is_finite, bears_minus}
use Rattle.double.specs.rules.Order.{◌≼◌, Finite, Between}
use Rattle.double.specs.rules.Whole.{whole_part}
use Rattle.double.specs.rules.Count.{count}
use Rattle.double.specs.notions.Fraction.{plus_part, minus_part}
use Rattle.double.specs.notions.Grid.{grid}
use Rattle.double.specs.notions.Range.{known, con, ◌⊟◌, ◌⊠◌}
use Rattle.double.specs.laws.Tests.{by_test, holds, fails}
use Rattle.double.specs.laws.Numbers.{less_or_not}
use Rattle.double.specs.laws.Order.{le_of_lt, le_of_not_le, neg_le, le_trans as ≼_trans}
use Rattle.double.specs.laws.Sign.{size_neg, size_plus, neg_neg}
use Rattle.double.specs.laws.Between.{between, between_neg, plus_of_positive}
use Rattle.double.specs.laws.Interval.{bounded}
use Rattle.double.specs.laws.WholePart.{whole_part_mono}
use Rattle.double.specs.laws.Grid.{over_grid}
use Rattle.quantity.specs.declared.Deg.{Deg}
use Rattle.quantity.specs.rules.Angle.{deg}
use Rattle.units.specs.rules.Degrees.{milliarcseconds, milliarcseconds_of_degree}
use Rattle.units.specs.rules.Nearest.{nearest_whole}
use Rattle.helpers.specs.rules.Angle.{turn_in_degrees, limited}
use Rattle.helpers.specs.rules.Circle.{half_turn, circle_refusal}
use Rattle.helpers.specs.laws.Circle.{circle_finite, circle_from_zero, circle_below_turn}
use Rattle.helpers.specs.laws.Limit.{limited_degrees}
use Rattle.residual_sheet.specs.rules.Residual.{rounded, is_aside, farthest_taken}
use Rattle.heading_mean.specs.rules.Residual.{taken_back, across, residual_from}
use Rattle.heading_mean.specs.notions.Near.{farthest_offset}
use Rattle.heading_mean.specs.notions.Arc.{unit, over, under, Within, Counted, Near}
use Rattle.heading_mean.specs.laws.Far.{nearest_from_whole, difference_within, across_within, folded}
use Rattle.heading_mean.specs.laws.Arc.{counted, counts_order, neg_counted, sum_near, difference_near, cancelled_back, turn_counted}
use Rattle.heading_mean.specs.laws.Arc.{turn_count, heading_counted}

-- ---- what agrees is near

-- 582590 / 2^21, which is 1000082 milliarcseconds
abbrev near_end : Float
near_end = grid binary64 20 582590

-- 1000050.0, and 648000000.0
abbrev over_limit : Float
over_limit = bits 0x412e84e400000000

abbrev most : Float
most = bits 0x41c34fd900000000

large : (y : Float) → Between over_limit most y → 1000001 ≤ nearest_whole (size y)
large y i =
    let p = plus_of_positive over_limit y (unfold of_bits in tt) i.from in
    let w : 1000001 ≤ whole_part over_limit = unfold of_bits to_unsigned in lit≤ tt in
    rw (size_plus y p) (omega (arith, w, whole_part_mono over_limit y i.start i.finite p i.from, nearest_from_whole y))

module _ (a : Float) (i : Between (neg half_turn) half_turn a) (few : nearest_whole (size (milliarcseconds (deg a))) ≤ 1000000) where
  not_east : near_end ≼ a → ⊥
  unfolding is_finite le neg mul of_bits round
  not_east h =
      let y = milliarcseconds (deg a) in
      let b = bounded binary64 over_limit most (known (between {a = near_end} {b = half_turn} {z = a} tt i.end h i.to) ⊠ con milliarcseconds_of_degree) tt in
      omega (arith, few, large y b)

  not_west : a ≼ neg near_end → ⊥
  unfolding is_finite le neg mul of_bits round
  not_west h =
      let y = milliarcseconds (deg a) in
      let b = bounded binary64 (neg most) (neg over_limit) (known (between {a = neg half_turn} {b = neg near_end} {z = a} i.start tt i.from h) ⊠ con milliarcseconds_of_degree) tt in
      omega (arith, few, subst (λ (z : Float). 1000001 ≤ nearest_whole z) (size_neg y) (large (neg y) (between_neg b)))

  to_east : a ≼ near_end
  to_east = by_flag (le a near_end) refl
    where
      by_flag : (t : Bool) → le a near_end ≡ t → a ≼ near_end
      by_flag true e = holds e
      by_flag false e = absurd (not_east (le_of_not_le a near_end i.finite (unfold is_finite round in tt) (fails e)))

  from_west : neg near_end ≼ a
  from_west = by_flag (le (neg near_end) a) refl
    where
      by_flag : (t : Bool) → le (neg near_end) a ≡ t → neg near_end ≼ a
      by_flag true e = holds e
      by_flag false e = absurd (not_west (le_of_not_le (neg near_end) a (unfold is_finite neg round in tt) i.finite (fails e)))

-- in counts
end_counts : (a : Float) (p n : ℕ) → Counted a p n → a ≼ near_end → 2097152 * p ≤ 582590 * unit + 2097152 * n
end_counts a p n c h =
    let k = cancelled_back 582590 p n (plus_part a) (minus_part a) (den a) unit (den_pos a) c.plus c.minus
    (over_grid binary64 20 582590 a (omega arith) (lit≤ tt) c.finite h) in
    omega (arith, k)

-- of what lies within 1000 seconds
pub offset_counts : (o : Float) → T (fits binary64 o) → Between (neg farthest_offset) farthest_offset o
    → (2097152 * over o ≤ 582590 * unit + 2097152 * under o) × (2097152 * under o ≤ 582590 * unit + 2097152 * over o)
offset_counts o F i =
    let c = counted o F i.finite in
    let e : farthest_offset ≼ near_end = unfold le of_bits round in tt in
    let w = between_neg i in (
      end_counts o (over o) (under o) c (≼_trans o farthest_offset near_end i.to e),
      end_counts (neg o) (under o) (over o) (neg_counted o (over o) (under o) c)
          (≼_trans (neg o) farthest_offset near_end (subst (λ (z : Float). neg o ≼ z) (neg_neg farthest_offset) w.to) e),
    )

-- ---- a sight

less_turn : (y : Float) → Between operations.zero turn_in_degrees y → Finite (y ⊖ turn_in_degrees)
unfolding is_finite le neg sub of_bits
less_turn y i = (bounded binary64 (neg turn_in_degrees) turn_in_degrees (known i ⊟ con turn_in_degrees) tt).finite

across_is : (reference heading : Deg) → (across reference heading).0 ≡ (taken_back (deg (limited (heading.0 ⊖ reference.0) turn_in_degrees))).0
unfolding across
across_is reference heading = refl

pub limited_fits : (x : Float) → T (fits binary64 x) → limited x turn_in_degrees ≡ cond (lt x operations.zero) (x ⊕ turn_in_degrees) x
    → T (fits binary64 (limited x turn_in_degrees))
limited_fits x F e =
    subst (λ (z : Float). T (fits binary64 z)) (sym e)
    (by_test (λ (z : Float). T (fits binary64 z)) (lt x operations.zero) (x ⊕ turn_in_degrees) x (λ t. add-fits binary64 x turn_in_degrees) (λ t. F))

module _ (reference heading : Deg) (R : circle_refusal reference ≡ 0) (H : circle_refusal heading ≡ 0) (fr : T (fits binary64 reference.0))
    (fh : T (fits binary64 heading.0)) where
  abbrev d : Float
  d = heading.0 ⊖ reference.0

  abbrev h : ℕ
  h = count heading.0

  abbrev r : ℕ
  r = count reference.0

  heading_counts : Counted heading.0 h 0
  heading_counts = heading_counted heading.0 fh (circle_finite heading H) (circle_from_zero heading H)

  reference_counts : Counted reference.0 r 0
  reference_counts = heading_counted reference.0 fr (circle_finite reference R) (circle_from_zero reference R)

  heading_most : h ≤ 360 * unit
  heading_most = omega (arith, counts_order heading_counts turn_counted (le_of_lt heading.0 turn_in_degrees (circle_below_turn heading H)))

  reference_most : r ≤ 360 * unit
  reference_most = omega (arith, counts_order reference_counts turn_counted (le_of_lt reference.0 turn_in_degrees (circle_below_turn reference R)))

  d_finite : Finite d
  d_finite = (difference_within reference heading R H).finite

  d_counted : Counted d (over d) (under d)
  d_counted = counted d (sub-fits binary64 heading.0 reference.0) d_finite

  d_near : Near (over d) (under d) h r
  d_near =
      let n = difference_near heading_counts reference_counts (over d) (under d) d_counted (omega (arith, heading_most)) (omega (arith, reference_most)) in
      record { from = omega (arith, n.from); to = omega (arith, n.to) }

  -- a whole turn apart
  turn_apart : count turn_in_degrees ≤ count d → Within 1000100 reference heading
  turn_apart k = by_sign (bears_minus d) d_near.from d_near.to
    where
      by_sign : (s : Bool) → 2097152 * (h + cond s (count d) 0) ≤ 2097152 * (cond s 0 (count d) + r) + unit
          → 2097152 * (cond s 0 (count d) + r) ≤ 2097152 * (h + cond s (count d) 0) + unit → Within 1000100 reference heading
      by_sign true f t = inr (inr (omega (arith, k, turn_count, f)))
      by_sign false f t = inr (inl (omega (arith, k, turn_count, t)))

  -- what is taken across the turn, and near
  module _ (a : Float) (ca : Counted a (over a) (under a)) (east : a ≼ near_end) (west : neg near_end ≼ a) where
    east_counts : 2097152 * over a ≤ 582590 * unit + 2097152 * under a
    east_counts = end_counts a (over a) (under a) ca east

    west_counts : 2097152 * under a ≤ 582590 * unit + 2097152 * over a
    west_counts =
        end_counts (neg a) (under a) (over a) (neg_counted a (over a) (under a) ca)
        (subst (λ (z : Float). neg a ≼ z) (neg_neg near_end) (neg_le (neg near_end) a west))

    -- three roundings between, and a turn either way or none
    none_between : 2097152 * (h + under a) ≤ 2097152 * (over a + r) + 3 * unit → 2097152 * (over a + r) ≤ 2097152 * (h + under a) + 3 * unit
        → Within 1000100 reference heading
    none_between f t = inl (omega (arith, east_counts, west_counts, f, t), omega (arith, east_counts, west_counts, f, t))

    east_between : 2097152 * (h + 360 * unit + under a) ≤ 2097152 * (over a + r) + 3 * unit → Within 1000100 reference heading
    east_between f = inr (inr (omega (arith, east_counts, f)))

    west_between : 2097152 * (over a + r + 360 * unit) ≤ 2097152 * (h + under a) + 3 * unit → Within 1000100 reference heading
    west_between t = inr (inl (omega (arith, west_counts, t)))

  -- y is the difference, or a turn more, after two roundings
  abbrev Differs : Float → Type 0
  Differs y = (2097152 * (h + under y) ≤ 2097152 * (over y + r) + 2 * unit) × (2097152 * (over y + r) ≤ 2097152 * (h + under y) + 2 * unit)

  abbrev DiffersByATurn : Float → Type 0
  DiffersByATurn y =
      (2097152 * (h + 360 * unit + under y) ≤ 2097152 * (over y + r) + 2 * unit) × (2097152 * (over y + r) ≤ 2097152 * (h + 360 * unit + under y) + 2 * unit)

  taken_back_lem : (y : Float) → Counted y (over y) (under y) → Between operations.zero turn_in_degrees y → Differs y ⊎ DiffersByATurn y
      → (taken_back (deg y)).0 ≼ near_end → neg near_end ≼ (taken_back (deg y)).0 → Within 1000100 reference heading
  unfolding taken_back
  taken_back_lem y cy i o = by_flag (lt half_turn y)
    where
      b : Float
      b = y ⊖ turn_in_degrees

      cb : Counted b (over b) (under b)
      cb = counted b (sub-fits binary64 y turn_in_degrees) (less_turn y i)

      least : over y ≤ under y + 1300 * unit
      least = most_of o
        where
          most_of : Differs y ⊎ DiffersByATurn y → over y ≤ under y + 1300 * unit
          most_of (inl k) = omega (arith, k.1, heading_most)
          most_of (inr k) = omega (arith, k.1, heading_most)

      greatest : under y ≤ over y + 600 * unit
      greatest = most_of o
        where
          most_of : Differs y ⊎ DiffersByATurn y → under y ≤ over y + 600 * unit
          most_of (inl k) = omega (arith, k.0, reference_most)
          most_of (inr k) = omega (arith, k.0, reference_most)

      n : Near (over b) (under b) (over y + 0) (under y + 360 * unit)
      n = difference_near cy turn_counted (over b) (under b) cb (omega (arith, least)) (omega (arith, greatest))

      by_flag : (t : Bool) → (cond t (deg b) (deg y)).0 ≼ near_end → neg near_end ≼ (cond t (deg b) (deg y)).0 → Within 1000100 reference heading
      by_flag true east west = on o
        where
          on : Differs y ⊎ DiffersByATurn y → Within 1000100 reference heading
          on (inl k) = west_between b cb east west (omega (arith, k.1, n.to))
          on (inr k) = none_between b cb east west (omega (arith, k.0, n.from)) (omega (arith, k.1, n.to))
      by_flag false east west = on o
        where
          on : Differs y ⊎ DiffersByATurn y → Within 1000100 reference heading
          on (inl k) = none_between y cy east west (omega (arith, k.0)) (omega (arith, k.1))
          on (inr k) = east_between y cy east west (omega (arith, k.0))

  -- the fold
  differs : (t : Bool) (y : Float) → y ≡ cond t (d ⊕ turn_in_degrees) d → Finite y → Counted y (over y) (under y) → Differs y ⊎ DiffersByATurn y
  differs true y e F c =
      let n = sum_near d_counted turn_counted (over y) (under y) (subst (λ (z : Float). Counted z (over y) (under y)) e c)
      (omega (arith, d_near.to, heading_most)) (omega (arith, d_near.from, reference_most)) in
      inr (omega (arith, n.from, d_near.from), omega (arith, n.to, d_near.to))
  differs false y e F c =
      inl (
        subst (λ (z : Float). 2097152 * (h + under z) ≤ 2097152 * (over z + r) + 2 * unit) (sym e) (omega (arith, d_near.from)),
        subst (λ (z : Float). 2097152 * (over z + r) ≤ 2097152 * (h + under z) + 2 * unit) (sym e) (omega (arith, d_near.to)),
      )

  few_of : is_aside (residual_from reference heading) ≡ false → nearest_whole (size (milliarcseconds (across reference heading))) ≤ 1000000
  unfolding residual_from rounded
  few_of e = nltb→le farthest_taken (nearest_whole (size (milliarcseconds (across reference heading)))) (fails e)

  -- a sight that agrees
  pub sight_near : is_aside (residual_from reference heading) ≡ false → Within 1000100 reference heading
  sight_near e = by_count (less_or_not (count d) (count turn_in_degrees))
    where
      a : Float
      a = (across reference heading).0

      i : Between (neg half_turn) half_turn a
      i = across_within reference heading R H

      y : Float
      y = limited d turn_in_degrees

      iy : Between operations.zero turn_in_degrees y
      iy = limited_degrees d d_finite

      is : a ≡ (taken_back (deg y)).0
      is = across_is reference heading

      by_count : (count d < count turn_in_degrees) ⊎ (count turn_in_degrees ≤ count d) → Within 1000100 reference heading
      by_count (inr k) = turn_apart k
      by_count (inl k) =
          let e' = sym (folded d (sub-fits binary64 heading.0 reference.0) k d_finite) in
          let cy = counted y (limited_fits d (sub-fits binary64 heading.0 reference.0) e') iy.finite in
          taken_back_lem y cy iy (differs (lt d operations.zero) y e' iy.finite cy)
          (subst (λ (z : Float). z ≼ near_end) is (to_east a i (few_of e)))
          (subst (λ (z : Float). neg near_end ≼ z) is (from_west a i (few_of e)))

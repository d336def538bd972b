-- The ceiling is the same for −t, does not fall as |t| grows, is finite and above zero up to 20 centuries, and no sum over the table that
-- has sines and cosines up to 1 in size is above it.
use Rattle.std.specs.Prelude.{◌≡◌, refl, List, [], ◌∷◌, ◌*◌, true, false, T, Float}
use Rattle.std.proofs.Common.{sym, ap, subst, mul-pos, arith, ltb→lt, lt→ltb}
use Rattle.std.specs.Float.{nan, inf, fin, binary64}
use Rattle.std.specs.Float.Ieee.{up, down, neg, add, mul, div, lt, of_bits, of_int, round}
use Rattle.std.specs.Float.Ieee.Fits.{up_pos}
use Rattle.std.specs.Float.Ieee.Positive.{positive, above, above_of_le}
use Rattle.double.specs.rules.Operations.{bits, zero, one, ◌⊗◌}
use Rattle.double.specs.rules.Sign.{is_finite, size}
use Rattle.double.specs.rules.Order.{◌≼◌, Finite}
use Rattle.double.specs.rules.Table.{over}
use Rattle.double.specs.laws.Sign.{size_neg, size_size, finite_size, plus_size}
use Rattle.double.specs.laws.Between.{finite_of_size, zero_le_plus}
use Rattle.quantity.specs.rules.Angle.{rad}
use Rattle.helpers.specs.rules.Angle.{degree}
use Rattle.nutation_args.specs.declared.Row.{Row}
use Rattle.nutation_args.specs.declared.Moon.{Moon}
use Rattle.nutation_args.specs.declared.Nutations.{Nutations}
use Rattle.nutation_args.specs.rules.Sum.{summed, none, converted}
use Rattle.nutation_table.specs.rules.Rows.{rows}
use Rattle.nutation_ceiling.specs.rules.Ceiling.{largest, with_largest, largest_sum, ceiling_at}
use Rattle.nutation_ceiling.specs.notions.Walk.{Under, walked, Each, sines, cosines, long, slow_long, oblq, slow_oblq, sized, ones}
use Rattle.nutation_ceiling.specs.notions.Bound.{Bounds, NoMore, Ample}
use Rattle.nutation_ceiling.specs.laws.Within.{under_itself, under_of_size, size_under, under_size, size_itself, under_mul, mul_back}
use Rattle.nutation_ceiling.specs.laws.Walk.{walked_under, long_walked, oblq_walked, long_largest_lem, oblq_largest_lem}

-- ---- the century's sign does not count

pub ceiling_mirrored : (t : Float) → ceiling_at (neg t) ≡ ceiling_at t
unfolding ceiling_at
ceiling_mirrored t = ap (λ (u : Float). converted (largest_sum rows u none)) (size_neg t)

-- ---- one component, over any rows

zero_under : Under zero zero
unfolding of_bits is_finite
zero_under = under_itself zero tt tt

one_under : Under one one
unfolding of_bits is_finite
one_under = under_itself one tt tt

degree_under : Under degree degree
unfolding of_bits is_finite
degree_under = under_itself degree tt tt

each_one : (xs : List Row) → Each (λ (x : Row). Under (ones x) (ones x)) xs
each_one [] = tt
each_one (x ∷ xs) = (one_under, each_one xs)

module _ (c d : Row → Float) (xs : List Row) (t u : Float) (h : Under u t) where
  abbrev most : Float → Float
  most u = walked (sized c) (sized d) ones u xs zero ⊗ degree

  grows : Finite (most u) → Under (most u) (most t)
  grows p =
      under_mul binary64 (walked (sized c) (sized d) ones u xs zero) degree (walked (sized c) (sized d) ones t xs zero) degree
      (walked_under (sized c) (sized d) ones (sized c) (sized d) ones t u (λ x. size_itself (c x)) (λ x. size_itself (d x)) h xs (each_one xs) zero zero zero_under
      (mul_back binary64 (walked (sized c) (sized d) ones u xs zero) degree p).0)
      degree_under p

  holds : (v : Row → Float) → Each (λ (x : Row). Under (ones x) (v x)) xs → Finite (most u) → Under (most u) (walked c d v t xs zero ⊗ degree)
  holds v w p =
      under_mul binary64 (walked (sized c) (sized d) ones u xs zero) degree (walked c d v t xs zero) degree
      (walked_under c d v (sized c) (sized d) ones t u (λ x. under_size (c x)) (λ x. under_size (d x)) h xs w zero zero zero_under
      (mul_back binary64 (walked (sized c) (sized d) ones u xs zero) degree p).0)
      degree_under p

-- ---- both components, over any rows

module _ (xs : List Row) (t u : Float) (h : Under u t) where
  abbrev over_rows : Float → Nutations
  over_rows u = converted (largest_sum xs u none)

  module _ (p : Finite (over_rows u).long.0) (q : Finite (over_rows u).oblq.0) where
    sums_grow : Under (over_rows u).long.0 (over_rows t).long.0 × Under (over_rows u).oblq.0 (over_rows t).oblq.0
    unfolding converted
    sums_grow =
        let l = long_largest_lem xs u none in
        let o = oblq_largest_lem xs u none in (
          rw (long_largest_lem xs u none, long_largest_lem xs t none) (grows long slow_long xs t u h (rw l at p)),
          rw (oblq_largest_lem xs u none, oblq_largest_lem xs t none) (grows oblq slow_oblq xs t u h (rw o at q)),
        )

    sums_hold : (a : Moon) → a.t ≡ t → Each (λ (x : Row). Under (ones x) (sines a x)) xs → Each (λ (x : Row). Under (ones x) (cosines a x)) xs
        → Under (over_rows u).long.0 (converted (summed xs a none)).long.0 × Under (over_rows u).oblq.0 (converted (summed xs a none)).oblq.0
    unfolding converted
    sums_hold a e v w = (
      rw (long_largest_lem xs u none, long_walked xs a none, e) (holds long slow_long xs t u h (sines a) v (rw (long_largest_lem xs u none) at p)),
      rw (oblq_largest_lem xs u none, oblq_walked xs a none, e) (holds oblq slow_oblq xs t u h (cosines a) w (rw (oblq_largest_lem xs u none) at q)),
    )

-- ---- the table: at 20 centuries and at none

abbrev pub farthest : Float
farthest = over 20 1

pub ceiling_at_farthest : ceiling_at farthest ≡ record { long = rad (bits 0x3f1928c08ca6e0af); oblq = rad (bits 0x3f09ad1b10fa98ff) }
unfolding ceiling_at converted largest_sum with_largest largest size add mul div of_bits of_int round
ceiling_at_farthest = refl

pub ceiling_at_none : ceiling_at zero ≡ record { long = rad (bits 0x3f18b220e2b370f7); oblq = rad (bits 0x3f099ac17d7ffb4c) }
unfolding ceiling_at converted largest_sum with_largest largest size add mul div of_bits of_int round
ceiling_at_none = refl

finite_long : Finite (ceiling_at farthest).long.0
finite_long = subst (λ (n : Nutations). Finite n.long.0) (sym ceiling_at_farthest) (unfold is_finite of_bits in tt)

finite_oblq : Finite (ceiling_at farthest).oblq.0
finite_oblq = subst (λ (n : Nutations). Finite n.oblq.0) (sym ceiling_at_farthest) (unfold is_finite of_bits in tt)

positive_long : T (positive (ceiling_at zero).long.0)
positive_long = subst (λ (n : Nutations). T (positive n.long.0)) (sym ceiling_at_none) (unfold of_bits in tt)

positive_oblq : T (positive (ceiling_at zero).oblq.0)
positive_oblq = subst (λ (n : Nutations). T (positive n.oblq.0)) (sym ceiling_at_none) (unfold of_bits in tt)

finite_farthest : Finite farthest
unfolding is_finite round
finite_farthest = tt

size_farthest : size farthest ≡ farthest
unfolding size round
size_farthest = refl

size_zero : size zero ≡ zero
unfolding size of_bits
size_zero = refl

-- ---- up to 20 centuries

-- a size up to another
sizes_under : (t u : Float) → Finite u → size t ≼ size u → Under (size u) (size t)
sizes_under t u p h = under_of_size (size u) (size t) (rw (finite_size u) p) (plus_size u p) (rw (size_size t) h)

table_grows : (t u : Float) → Under (size u) (size t) → Finite (ceiling_at u).long.0 → Finite (ceiling_at u).oblq.0
    → Under (ceiling_at u).long.0 (ceiling_at t).long.0 × Under (ceiling_at u).oblq.0 (ceiling_at t).oblq.0
unfolding ceiling_at
table_grows t u h p q = sums_grow rows (size t) (size u) h p q

lt_of_positive : (a x : Float) → T (positive a) → Finite x → a ≼ x → T (lt zero x)
unfolding is_finite lt of_bits
lt_of_positive a x p q h = by_case x q (above_of_le a x p h)
  where
    by_case : (x : Float) → Finite x → T (above x) → T (lt zero x)
    by_case nan q k = absurd q
    by_case (inf s) q k = absurd q
    by_case (fin true m e) q k = absurd k
    by_case (fin false m e) q k = lt→ltb (0 * down e) (m * up e * 1) (omega (arith, mul-pos (ltb→lt 0 m k) (up_pos e)))

module _ (t : Float) (h : size t ≼ farthest) where
  finite_century : Finite t
  finite_century = finite_of_size t farthest finite_farthest h

  to_farthest : Under (ceiling_at farthest).long.0 (ceiling_at t).long.0 × Under (ceiling_at farthest).oblq.0 (ceiling_at t).oblq.0
  to_farthest = table_grows t farthest (sizes_under t farthest finite_farthest (rw size_farthest h)) finite_long finite_oblq

  pub ceiling_within_farthest : NoMore (ceiling_at t) (ceiling_at farthest)
  ceiling_within_farthest = record { long = to_farthest.0.between.to; oblq = to_farthest.1.between.to }

  pub ceiling_finite : Finite (ceiling_at t).long.0 × Finite (ceiling_at t).oblq.0
  ceiling_finite = (to_farthest.0.between.finite, to_farthest.1.between.finite)

  from_none : Under (ceiling_at t).long.0 (ceiling_at zero).long.0 × Under (ceiling_at t).oblq.0 (ceiling_at zero).oblq.0
  from_none =
      table_grows zero t
      (sizes_under zero t finite_century (rw size_zero (zero_le_plus (size t) (rw (finite_size t) finite_century) (plus_size t finite_century))))
      ceiling_finite.0 ceiling_finite.1

  pub ceiling_ample : Ample (ceiling_at t)
  ceiling_ample =
      record {
        long = (ceiling_finite.0, lt_of_positive (ceiling_at zero).long.0 (ceiling_at t).long.0 positive_long ceiling_finite.0 from_none.0.between.to);
        oblq = (ceiling_finite.1, lt_of_positive (ceiling_at zero).oblq.0 (ceiling_at t).oblq.0 positive_oblq ceiling_finite.1 from_none.1.between.to);
      }

  -- of any arguments at the century t whose sines and cosines are up to 1 in size
  pub ceiling_holds : (a : Moon) → a.t ≡ t → Each (λ (x : Row). Under (ones x) (sines a x)) rows → Each (λ (x : Row). Under (ones x) (cosines a x)) rows
      → Bounds (ceiling_at t) (converted (summed rows a none))
  unfolding ceiling_at
  ceiling_holds a e v w =
      let F : Finite (size t) = rw (finite_size t) finite_century in
      let k = sums_hold rows t (size t) (under_size t F) ceiling_finite.0 ceiling_finite.1 a e v w in
      record {
        long = size_under (ceiling_at t).long.0 (converted (summed rows a none)).long.0 k.0;
        oblq = size_under (ceiling_at t).oblq.0 (converted (summed rows a none)).oblq.0 k.1;
      }

-- it does not fall as the size of the century grows
pub ceiling_grows : (t u : Float) → size u ≼ farthest → size t ≼ size u → NoMore (ceiling_at t) (ceiling_at u)
ceiling_grows t u f h =
    let p = ceiling_finite u f in
    let k = table_grows t u (sizes_under t u (finite_century u f) h) p.0 p.1 in
    record { long = k.0.between.to; oblq = k.1.between.to }

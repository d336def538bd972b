-- Of angles up to the farthest one: the fold refuses no difference, a right ascension's then lies from −PI to PI, and the whole number is
-- the nearest to the product, halves away from zero.
use Rattle.std.specs.Prelude.{◌≤◌, ◌≡◌, true, false, Float}
use Rattle.std.proofs.Common.{le_trans, arith}
use Rattle.std.proofs.Math.Dec.{lit≤}
use Rattle.std.specs.Float.Ieee.{binary64, neg, sub, mul, le, lt, of_bits, round, to_unsigned}
use Rattle.std.specs.Float.Ieee.Bits.{is_true}
use Rattle.std.specs.Float.Ieee.Fits.{mul-fits}
use Rattle.double.specs.rules.Operations.{bits, zero, ◌⊖◌}
use Rattle.double.specs.rules.Sign.{is_finite, size}
use Rattle.double.specs.rules.Order.{◌≼◌, Finite, Between}
use Rattle.double.specs.rules.Table.{decimal}
use Rattle.double.specs.rules.Whole.{whole_part}
use Rattle.double.specs.notions.Range.{known, con, ◌⊟◌, ◌⊠◌}
use Rattle.double.specs.laws.Tests.{by_test}
use Rattle.double.specs.laws.Order.{le_of_lt, le_of_not_lt, le_trans as ≼_trans}
use Rattle.double.specs.laws.Between.{between, size→between, between→size}
use Rattle.double.specs.laws.Interval.{bounded}
use Rattle.double.specs.laws.Sign.{plus_size, finite_size}
use Rattle.double.specs.laws.WholePart.{whole_part_mono}
use Rattle.quantity.specs.declared.Rad.{Rad}
use Rattle.quantity.specs.rules.Angle.{PI, rad}
use Rattle.quantity.specs.rules.Answer.{answered}
use Rattle.quantity.specs.rules.Refusal.{farthest}
use Rattle.units.specs.rules.Degrees.{degrees_of_radian, milliarcseconds_of_degree}
use Rattle.units.specs.notions.Nearest.{IsNearest}
use Rattle.units.specs.laws.Nearest.{nearest_true}
use Rattle.remainder.specs.laws.Tests.{size_from_zero}
use Rattle.helpers.specs.rules.Angle.{turn_in_radians, within_two_PI, limit_to_two_PI_rule}
use Rattle.helpers.specs.laws.Limit.{limited_radians}
use Rattle.residual_sheet.specs.rules.Residual.{difference, taken_back, across_turn, unrounded, rounded, in_milliarcseconds, residual_of}

-- 128.0
abbrev widest : Float
widest = bits 0x4060000000000000

-- 26402000000.0, which 128 radians are below in milliarcseconds
abbrev most : Float
most = decimal 26402000000 0

-- ---- a difference

module _ (computed measured : Rad) (c : size computed.0 ≼ farthest) (m : size measured.0 ≼ farthest) where
  pub difference_within : Between (neg widest) widest (difference computed measured).0
  unfolding is_finite le neg sub of_bits
  difference_within =
      bounded binary64 (neg widest) widest
      (known (size→between farthest computed.0 tt c) ⊟ known (size→between farthest measured.0 tt m)) tt

  -- `limit_to_two_PI` refuses none
  pub fold_answers : limit_to_two_PI_rule (difference computed measured) ≡ answered (within_two_PI (difference computed measured))
  fold_answers = rw (is_true (is_finite (difference computed measured).0) difference_within.finite)

-- ---- across the turn

pub taken_back_within : (x : Rad) → Between zero turn_in_radians x.0 → Between (neg PI) PI (taken_back x).0
unfolding taken_back is_finite le neg sub of_bits
taken_back_within x i =
    by_test (λ (y : Rad). Between (neg PI) PI y.0) (lt PI x.0) (rad (x.0 ⊖ turn_in_radians)) x
    (λ t. bounded binary64 (neg PI) PI
    (known (between {a = PI} {b = turn_in_radians} {z = x.0} tt i.end (le_of_lt PI x.0 t) i.to) ⊟ con turn_in_radians) tt)
    (λ t. between tt tt (≼_trans (neg PI) zero x.0 tt i.from) (le_of_not_lt PI x.0 tt i.finite t))

pub across_turn_within : (x : Rad) → Finite x.0 → Between (neg PI) PI (across_turn x).0
unfolding across_turn
across_turn_within x F = taken_back_within (within_two_PI x) (limited_radians x.0 F)

wider : (x : Float) → Between (neg PI) PI x → Between (neg widest) widest x
unfolding is_finite le neg of_bits
wider x i = bounded binary64 (neg widest) widest (known i) tt

-- ---- the nearest

module _ (x : Rad) (i : Between (neg widest) widest x.0) where
  in_milliarcseconds_within : Between (neg most) most (unrounded x)
  unfolding is_finite le neg mul of_bits round
  in_milliarcseconds_within =
      bounded binary64 (neg most) most (known i ⊠ con degrees_of_radian ⊠ con milliarcseconds_of_degree) tt

  finite_size_of : Finite (size (unrounded x))
  finite_size_of = rw (finite_size (unrounded x)) in_milliarcseconds_within.finite

  whole_at_most : whole_part (size (unrounded x)) ≤ 26402000000
  whole_at_most =
      let within = in_milliarcseconds_within in
      le_trans (whole_part_mono (size (unrounded x)) most finite_size_of within.end (unfold round in tt) (between→size most (unrounded x) within))
      (unfold round to_unsigned in lit≤ tt)

  in_milliarcseconds_nearest : IsNearest (in_milliarcseconds x).size (size (unrounded x))
  unfolding in_milliarcseconds rounded
  in_milliarcseconds_nearest =
      let h = whole_at_most in
      let finite = is_true (is_finite (unrounded x)) in_milliarcseconds_within.finite in
      nearest_true (size (unrounded x)) (size_from_zero (unrounded x) (mul-fits binary64 _ _) finite).held finite_size_of
      (plus_size (unrounded x) in_milliarcseconds_within.finite) (omega arith)

module _ (computed measured : Rad) (c : size computed.0 ≼ farthest) (m : size measured.0 ≼ farthest) where
  -- in declination
  pub dec_nearest : IsNearest (residual_of false computed measured).size (size (unrounded (difference computed measured)))
  unfolding residual_of
  dec_nearest = in_milliarcseconds_nearest (difference computed measured) (difference_within computed measured c m)

  -- in right ascension
  pub asc_nearest : IsNearest (residual_of true computed measured).size (size (unrounded (across_turn (difference computed measured))))
  unfolding residual_of
  asc_nearest =
      let d = difference computed measured in
      in_milliarcseconds_nearest (across_turn d) (wider (across_turn d).0 (across_turn_within d (difference_within computed measured c m).finite))

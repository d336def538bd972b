-- The seconds of a fraction from 0.0 to 1.0 are 86400 at most, and the true whole part of the seconds and a half.
use Rattle.std.specs.Prelude.{◌≤◌, Float}
use Rattle.std.proofs.Common.{le_trans, arith}
use Rattle.std.proofs.Math.Dec.{lit≤}
use Rattle.std.specs.Float.Ieee.{binary64, add, mul, le, of_bits, round, to_unsigned}
use Rattle.double.specs.rules.Operations.{zero, half, one, ◌⊕◌, ◌⊗◌}
use Rattle.double.specs.rules.Sign.{is_finite}
use Rattle.double.specs.rules.Order.{Between}
use Rattle.double.specs.rules.Table.{over}
use Rattle.double.specs.rules.Whole.{IsWholePart}
use Rattle.double.specs.notions.Range.{known, con, ◌⊞◌, ◌⊠◌}
use Rattle.double.specs.laws.Between.{plus_of_positive}
use Rattle.double.specs.laws.Interval.{bounded}
use Rattle.double.specs.laws.WholePart.{whole_part_mono, whole_part_true}
use Rattle.text_time.specs.rules.Time.{seconds_of_day, seconds_of}

module _ (x : Float) (day : Between zero one x) where
  sum_between : Between half (over 172801 2) (x ⊗ seconds_of_day ⊕ half)
  unfolding is_finite le mul add of_bits round
  sum_between = bounded binary64 half (over 172801 2) (known day ⊠ con seconds_of_day ⊞ con half) tt

  pub seconds_at_most : seconds_of x ≤ 86400
  seconds_at_most =
      let s = sum_between in
      le_trans
      (whole_part_mono (x ⊗ seconds_of_day ⊕ half) (over 172801 2) s.finite s.end (unfold round in tt) s.to)
      (unfold round to_unsigned in lit≤ tt)

  pub seconds_true : IsWholePart (seconds_of x) (x ⊗ seconds_of_day ⊕ half)
  seconds_true =
      let s = sum_between in
      let h = seconds_at_most in
      whole_part_true (x ⊗ seconds_of_day ⊕ half) s.finite
      (plus_of_positive half (x ⊗ seconds_of_day ⊕ half) (unfold of_bits in tt) s.from) (omega arith)

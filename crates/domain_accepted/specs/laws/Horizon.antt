-- Both arguments of the azimuth's arctangent are finite, of arguments that are not refused.
use Rattle.std.specs.Prelude.{◌≡◌}
use Rattle.std.specs.Float.Ieee.{binary64, neg, add, sub, mul, le, of_bits, round}
use Rattle.double.specs.rules.Sign.{is_finite}
use Rattle.double.specs.rules.Order.{Finite}
use Rattle.double.specs.rules.Table.{over}
use Rattle.double.specs.notions.Range.{known, ◌⊟◌, ◌⊠◌}
use Rattle.double.specs.laws.Interval.{bounded}
use Rattle.quantity.specs.declared.Rad.{Rad}
use Rattle.quantity.specs.rules.Refusal.{angle_refusal, latitude_refusal, steep_refusal}
use Rattle.elementary.specs.rules.Sine.{sine_of}
use Rattle.coords.specs.rules.Arguments.{steep_sky_refusal}
use Rattle.coords.specs.rules.Horizon.{southward}
use Rattle.domain_accepted.specs.laws.Accepted.{none_of_three, angle_sine, angle_cosine, latitude_sine, latitude_cosine, steep_tangent}

module _ (h d p : Rad) (none : steep_sky_refusal h d p ≡ 0) where
  pub westward_finite : Finite (sine_of h)
  westward_finite =
      let n = none_of_three (angle_refusal h) (steep_refusal d) (latitude_refusal p) none in
      (angle_sine h n.0).finite

  pub southward_finite : Finite (southward h d p)
  unfolding is_finite le neg add sub mul of_bits round
  southward_finite =
      let n = none_of_three (angle_refusal h) (steep_refusal d) (latitude_refusal p) none in
      (bounded binary64 (neg (over 32768 1)) (over 32768 1)
      (known (angle_cosine h n.0) ⊠ known (latitude_sine p n.2) ⊟ known (steep_tangent d n.1) ⊠ known (latitude_cosine p n.2)) tt
      ).finite

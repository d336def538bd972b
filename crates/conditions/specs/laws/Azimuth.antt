-- Condition 3, on every answered call: azimuth keeps the sign of the sine of the hour angle, and its size is at most a quarter turn, or
-- at least one, as the arctangent's second argument bears no minus sign or bears one.
use Rattle.std.specs.Prelude.{◌≡◌, true, false}
use Rattle.double.specs.rules.Sign.{bears_minus, size}
use Rattle.double.specs.rules.Order.{◌≼◌, Finite}
use Rattle.quantity.specs.declared.Rad.{Rad}
use Rattle.quantity.specs.rules.Angle.{PI, HALF}
use Rattle.quantity.specs.rules.Answer.{answered}
use Rattle.elementary.specs.rules.Sine.{sine_of}
use Rattle.elementary_arc.specs.rules.Arctangent.{arctangent_in}
use Rattle.quantity.specs.laws.Accepted.{answered_unless}
use Rattle.elementary_arc.specs.laws.Arctangent.{arctangent_in_sign, arctangent_in_at_most_half, arctangent_in_at_least_half, arctangent_in_at_most_pi}
use Rattle.coords.specs.rules.Arguments.{steep_sky_refusal}
use Rattle.domain_accepted.specs.laws.Horizon.{westward_finite, southward_finite}
use Rattle.coords.specs.rules.Horizon.{southward, azimuth_in, az_frm_eq_rule}

module _ (h d p : Rad) (v : Rad) (answer : az_frm_eq_rule h d p ≡ answered v) where
  pub azimuth_accepted : steep_sky_refusal h d p ≡ 0
  azimuth_accepted = (answered_unless (steep_sky_refusal h d p) (azimuth_in h d p) v answer).0

  -- v is the arctangent of (the sine of the hour angle, southward)
  pub azimuth_worked_out : arctangent_in (sine_of h) (southward h d p) ≡ answered v
  unfolding azimuth_in
  azimuth_worked_out = (answered_unless (steep_sky_refusal h d p) (azimuth_in h d p) v answer).1

  y_finite : Finite (sine_of h)
  y_finite = westward_finite h d p azimuth_accepted

  x_finite : Finite (southward h d p)
  x_finite = southward_finite h d p azimuth_accepted

  -- the sign of the sine of the hour angle
  pub azimuth_sign : bears_minus v.0 ≡ bears_minus (sine_of h)
  azimuth_sign = arctangent_in_sign (sine_of h) (southward h d p) v azimuth_worked_out y_finite x_finite

  -- a quarter turn at most, where the second argument bears no minus sign
  pub azimuth_at_most_quarter_turn : bears_minus (southward h d p) ≡ false → size v.0 ≼ HALF
  azimuth_at_most_quarter_turn = arctangent_in_at_most_half (sine_of h) (southward h d p) v azimuth_worked_out y_finite x_finite

  -- a quarter turn at least, where it bears one
  pub azimuth_at_least_quarter_turn : bears_minus (southward h d p) ≡ true → HALF ≼ size v.0
  azimuth_at_least_quarter_turn = arctangent_in_at_least_half (sine_of h) (southward h d p) v azimuth_worked_out y_finite x_finite

  -- and half a turn at most in any case
  pub azimuth_at_most_half_turn : size v.0 ≼ PI
  azimuth_at_most_half_turn = arctangent_in_at_most_pi (sine_of h) (southward h d p) v azimuth_worked_out y_finite x_finite

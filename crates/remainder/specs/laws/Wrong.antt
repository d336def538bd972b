-- Wrong variants are excluded: each differs from the rule at the input stated.
use Rattle.std.specs.Prelude.{refl, false, Float, ◌≢◌}
use Rattle.std.specs.Float.{inf}
use Rattle.std.specs.Float.Ieee.{neg}
use Rattle.double.specs.rules.Operations.{bits, one}
use Rattle.double.specs.notions.Code.{of_float}
use Rattle.double.specs.notions.Computed.{computed}
use Rattle.double.specs.notions.Greatest.{greatest}
use Rattle.double.specs.laws.Apart.{apart}
use Rattle.remainder.specs.rules.Remainder.{remainder_of}
use Rattle.remainder.specs.notions.Wrong.{divisors_sign, zero_loses_sign, one_step_fewer, subnormals_are_zero, largest_left_out, infinity_is_zero}

-- 360.0
abbrev turn : Float
turn = bits 0x4076800000000000

pub divisors_sign_excluded : divisors_sign (neg one) turn ≢ remainder_of (neg one) turn
unfolding computed
divisors_sign_excluded = apart of_float refl

pub zero_loses_sign_excluded : zero_loses_sign (neg turn) turn ≢ remainder_of (neg turn) turn
unfolding computed
zero_loses_sign_excluded = apart of_float refl

-- at 540.0
pub one_step_fewer_excluded : one_step_fewer (bits 0x4080e00000000000) turn ≢ remainder_of (bits 0x4080e00000000000) turn
unfolding computed
one_step_fewer_excluded = apart of_float refl

-- at the least double above zero
pub subnormals_are_zero_excluded : subnormals_are_zero (bits 1) turn ≢ remainder_of (bits 1) turn
unfolding computed
subnormals_are_zero_excluded = apart of_float refl

pub largest_left_out_excluded : largest_left_out greatest turn ≢ remainder_of greatest turn
unfolding computed
largest_left_out_excluded = apart of_float refl

pub infinity_is_zero_excluded : infinity_is_zero (inf false) turn ≢ remainder_of (inf false) turn
unfolding computed
infinity_is_zero_excluded = apart of_float refl

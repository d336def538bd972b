-- Wrong variants of the remainder.
use Rattle.std.specs.Prelude.{cond, Float}
use Rattle.std.specs.Float.Ieee.{lt}
use Rattle.double.specs.rules.Operations.{bits, zero, half, two, ◌⊗◌}
use Rattle.double.specs.rules.Sign.{bears_minus, negated_if, size, is_finite}
use Rattle.double.specs.notions.Greatest.{greatest}
use Rattle.remainder.specs.rules.Remainder.{remainder_of}

abbrev pub divisors_sign : Float → Float → Float
divisors_sign x y = negated_if (bears_minus y) (size (remainder_of x y))

-- −0 comes out as +0
abbrev pub zero_loses_sign : Float → Float → Float
zero_loses_sign x y = cond (lt zero (size (remainder_of x y))) (remainder_of x y) zero

-- the last binary place is not worked off
abbrev pub one_step_fewer : Float → Float → Float
one_step_fewer x y = two ⊗ remainder_of (half ⊗ x) y

-- what is below 2^−1022, the least double with a leading digit
abbrev pub subnormals_are_zero : Float → Float → Float
subnormals_are_zero x y = cond (lt (size x) (bits 0x0010000000000000)) zero (remainder_of x y)

-- the largest double taken for an infinity
abbrev pub largest_left_out : Float → Float → Float
largest_left_out x y = cond (lt (size x) greatest) (remainder_of x y) (x ⊗ zero)

abbrev pub infinity_is_zero : Float → Float → Float
infinity_is_zero x y = cond (is_finite x) (remainder_of x y) zero

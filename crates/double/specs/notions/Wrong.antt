-- Wrong variants of the functions on doubles.
use Rattle.std.specs.Prelude.{ℕ, ◌-◌, ◌/◌, ◌%◌, ◌^◌, Bool, false, cond, Float}
use Rattle.std.specs.Float.{inf}
use Rattle.std.specs.Float.Ieee.{neg, le, lt}
use Rattle.double.specs.rules.Operations.{bits, zero}
use Rattle.double.specs.rules.Sign.{bears_minus, size}
use Rattle.double.specs.rules.Whole.{whole_part, from_whole}
use Rattle.double.specs.rules.Pattern.{pattern_of}

-- −0 taken as +0
abbrev pub bears_minus_below_zero : Float → Bool
bears_minus_below_zero x = lt x zero

abbrev pub negated_unless : Bool → Float → Float
negated_unless flag x = cond flag x (neg x)

abbrev pub either_swapped : Bool → Float → Float → Float
either_swapped flag a b = cond flag b a

-- −0 kept
abbrev pub size_of_below_zero : Float → Float
size_of_below_zero x = cond (lt x zero) (neg x) x

-- the smaller of x and −x
abbrev pub size_below_zero : Float → Float
size_below_zero x = cond (bears_minus x) x (neg x)

-- the infinities too
abbrev pub finite_to_infinity : Float → Bool
finite_to_infinity x = le (size x) (inf false)

-- one less where the number is too large
abbrev pub whole_part_capped : Float → ℕ
whole_part_capped x = cond (lt x (from_whole (2 ^ 64))) (whole_part x) (2 ^ 64 - 2)

-- the leading digit, which a pattern does not write, left out
abbrev pub whole_part_of_written : Float → ℕ
whole_part_of_written x = pattern_of x % 2 ^ 52 / 2 ^ (1075 - pattern_of x / 2 ^ 52)

-- the top bit lost
abbrev pub from_low_bits : ℕ → Float
from_low_bits n = from_whole (n % 2 ^ 63)

-- −0 as +0
abbrev pub pattern_of_size : Float → ℕ
pattern_of_size x = pattern_of (size x)

-- read without its sign
abbrev pub bits_of_size : ℕ → Float
bits_of_size b = bits (b % 2 ^ 63)

-- the double below the greatest
abbrev pub below_greatest : Float
below_greatest = bits 0x7feffffffffffffe

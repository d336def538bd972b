-- What is known of a double from 1/2 up to 2^53.
use Rattle.std.specs.Prelude.{◌≡◌, ℕ, ◌*◌, ◌/◌, ◌^◌, ◌<◌, ◌≤◌, to_bits, Float}
use Rattle.std.specs.Float.{binary64}
use Rattle.double.specs.rules.Count.{IsFromZero, count}
use Rattle.double.specs.rules.Whole.{whole_part}

-- the smallest double goes 2^1074 times into 1
pub record IsNear (x : Float) : Type 0 where
  pub from_zero : IsFromZero x
  pub least : 2 ^ 1074 ≤ 2 * count x
  pub most : count x < 2 ^ 53 * 2 ^ 1074
  pub part : count x / 2 ^ 1074 ≡ whole_part x

-- the exponent's field of its pattern
abbrev pub field : Float → ℕ
field x = to_bits binary64 x / 2 ^ 52

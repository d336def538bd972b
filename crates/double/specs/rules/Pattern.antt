-- The bits of a double.
use Rattle.std.specs.Prelude.{ℕ, cond, to_bits, Float}
use Rattle.std.specs.Float.{binary64}
use Rattle.std.specs.Float.Ieee.{eq}

-- a NaN, which is not equal to itself, has those of the quiet one
unfoldable pub pattern_of : Float → ℕ
pattern_of x = cond (eq x x) (to_bits binary64 x) 0x7ff8000000000000

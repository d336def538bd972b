-- What a theorem opens that works rules out at stated inputs: the operations on doubles. A crate above adds its own.
use Rattle.std.specs.Prelude.{ℕ}
use Rattle.std.specs.Float.Ieee as Ieee
use Rattle.std.specs.Float.Ieee.{neg, add, sub, mul, div, rem, eq, le, lt, of_bits, to_bits, of_int, to_unsigned, round}
use Rattle.double.specs.rules.Sign.{bears_minus, size, is_finite}
use Rattle.double.specs.rules.Pattern.{pattern_of}

-- a name for the line below it, which is what counts
unfoldable pub computed : ℕ
unfolding neg add sub mul div rem eq le lt of_bits to_bits of_int to_unsigned round Ieee.size bears_minus size is_finite pattern_of
computed = 0

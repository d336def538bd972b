-- A pattern without its sign, as code takes it apart: digits·2^places is what it counts.
use Rattle.std.specs.Prelude.{cond, ℕ, ◌+◌, ◌-◌, ◌/◌, ◌%◌, ◌^◌, ltb}

-- with the leading digit, which a pattern does not write; a subnormal has none to add
unfoldable pub digits_of : ℕ → ℕ
digits_of b = cond (ltb b (2 ^ 52)) b (2 ^ 52 + b % 2 ^ 52)

-- the exponent's field less 1, of a subnormal 0
unfoldable pub binary_places_of : ℕ → ℕ
binary_places_of b = b / 2 ^ 52 - 1

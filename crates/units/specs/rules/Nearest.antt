-- The nearest whole number to one not below zero, a half going up; from 2^53 on every double is whole. Its sign, of a double of either.
use Rattle.std.specs.Prelude.{ℕ, ◌+◌, Bool, false, cond, nat_lt, Float}
use Rattle.std.specs.Float.Ieee.{lt, le}
use Rattle.double.specs.rules.Operations.{zero, half, ◌⊖◌}
use Rattle.double.specs.rules.Whole.{whole_part, from_whole}

unfoldable pub nearest_whole : Float → ℕ
nearest_whole y =
    cond (nat_lt (whole_part y) 9007199254740992)
    (cond (le half (y ⊖ from_whole (whole_part y))) (whole_part y + 1) (whole_part y))
    (whole_part y)

-- a minus sign stands before n where y is below zero, but not before 0
abbrev pub has_minus : Float → ℕ → Bool
has_minus y n = cond (lt y zero) (nat_lt 0 n) false

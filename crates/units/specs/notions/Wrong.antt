-- Wrong variants of units and of the nearest whole number.
use Rattle.std.specs.Prelude.{ℕ, ◌+◌, cond, ℤ, Float}
use Rattle.std.specs.Float.{binary64}
use Rattle.std.specs.Float.Ieee.{of_int, lt}
use Rattle.double.specs.rules.Operations.{bits, half, ◌⊖◌, ◌⊗◌, ◌⊘◌}
use Rattle.double.specs.rules.Whole.{whole_part, from_whole}
use Rattle.quantity.specs.declared.Deg.{Deg}
use Rattle.quantity.specs.declared.Rad.{Rad}
use Rattle.quantity.specs.rules.Angle.{deg}

-- radians taken for degrees
abbrev pub radians_as_degrees : Rad → Deg
radians_as_degrees x = deg x.0

-- 3600.0 in a degree
abbrev seconds_of_degree : Float
seconds_of_degree = bits 0x40ac200000000000

abbrev pub arcseconds : Deg → Float
arcseconds x = x.0 ⊗ seconds_of_degree

abbrev pub seconds_for_milliarcseconds : ℤ → Deg
seconds_for_milliarcseconds count = deg (of_int binary64 count ⊘ seconds_of_degree)

-- below 2^53
abbrev pub halves_toward_zero : Float → ℕ
halves_toward_zero y = cond (lt half (y ⊖ from_whole (whole_part y))) (whole_part y + 1) (whole_part y)

-- to the whole number that is not above
abbrev pub cut_not_rounded : Float → ℕ
cut_not_rounded = whole_part

-- Wrong variants are excluded: each differs from the rule on the day stated.
use Rattle.std.specs.Prelude.{ℕ, refl, Float, ◌≢◌}
use Rattle.double.specs.rules.Operations.{bits}
use Rattle.double.specs.laws.Apart.{apart}
use Rattle.quantity.specs.notions.Code.{of_rad}
use Rattle.nutation_args.specs.declared.Nutations.{Nutations}
use Rattle.nutation_args.specs.notions.Computed.{computed}
use Rattle.nutation_table.specs.rules.Day.{nutation_of}
use Rattle.nutation_table.specs.notions.Wrong.{one_coefficient_changed, two_rows_traded}

abbrev of_long : Nutations → ℕ
of_long n = of_rad n.long

-- 2451977.0, one of the few days on which the order of two rows counts
abbrev day : Float
day = bits 0x4142b50480000000

pub one_coefficient_changed_excluded : one_coefficient_changed day ≢ nutation_of day
unfolding computed nutation_of
one_coefficient_changed_excluded = apart of_long refl

pub two_rows_traded_excluded : two_rows_traded day ≢ nutation_of day
unfolding computed nutation_of
two_rows_traded_excluded = apart of_long refl

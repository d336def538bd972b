-- Wrong variants are excluded: each differs from the rule at the input stated. A rule varies: a library that refuses everything, or
-- answers a constant, does not meet it.
use Rattle.std.specs.Prelude.{refl, false, take, ◌≢◌}
use Rattle.std.specs.Float.{inf}
use Rattle.double.specs.rules.Operations.{zero, one}
use Rattle.double.specs.laws.Apart.{apart}
use Rattle.quantity.specs.notions.Code.{of_deg, of_first, of_answer, unread}
use Rattle.quantity.specs.notions.Stated.{r0, r1, origin, north_pole}
use Rattle.quantity.specs.notions.Varies.{Varies}
use Rattle.nutation_args.specs.declared.Sums.{Sums}
use Rattle.nutation_args.specs.rules.Arguments.{moon_of}
use Rattle.nutation_args.specs.rules.Sum.{summed, none}
use Rattle.nutation_table.specs.rules.Rows.{rows}
use Rattle.nutation.specs.rules.Day.{nutation_rule}
use Rattle.nutation.specs.rules.Point.{nutation_in_eq_coords_rule}
use Rattle.nutation.specs.notions.Computed.{computed}
use Rattle.nutation.specs.notions.Wrong.{any_day_answered, declination_not_steep}

-- ---- on a day

-- of the sums over the table the first row's share: at the centuries 0.0 and 1.0
pub first_row_varies : summed (take 1 rows) (moon_of zero) none ≢ summed (take 1 rows) (moon_of one) none
unfolding computed
first_row_varies = apart (λ (s : Sums). of_deg s.long) refl

pub any_day_answered_excluded : any_day_answered (inf false) ≢ nutation_rule (inf false)
unfolding computed
any_day_answered_excluded = apart (of_answer unread) refl

-- ---- at a point

pub nutation_in_eq_coords_varies : Varies (nutation_in_eq_coords_rule origin r1 r0 r0) (nutation_in_eq_coords_rule origin r0 r0 r0)
unfolding computed
nutation_in_eq_coords_varies = record { here = refl; there = refl; apart = apart (of_answer of_first) refl }

pub declination_not_steep_excluded : declination_not_steep north_pole r0 r0 r0 ≢ nutation_in_eq_coords_rule north_pole r0 r0 r0
unfolding computed
declination_not_steep_excluded = apart (of_answer unread) refl

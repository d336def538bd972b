-- What a theorem opens that works rules out at stated inputs: nutation on a day and at a point.
use Rattle.std.specs.Prelude.{ℕ}
use Rattle.nutation_args.specs.notions.Computed as rows
use Rattle.nutation_table.specs.rules.Day.{nutation_of}
use Rattle.nutation.specs.rules.Day.{nutation_rule}
use Rattle.nutation.specs.rules.Point.{nutation_at, nutation_in_eq_coords_in, nutation_in_eq_coords_rule}

-- a name for the line below it, which is what counts
unfoldable pub computed : ℕ
unfolding rows.computed nutation_of nutation_rule nutation_at nutation_in_eq_coords_in nutation_in_eq_coords_rule
computed = 0

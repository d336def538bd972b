-- Nutation on a day: the sums over the table, in radians.
use Rattle.std.specs.Prelude.{Float}
use Rattle.helpers.specs.rules.Time.{century_of}
use Rattle.nutation_args.specs.declared.Nutations.{Nutations}
use Rattle.nutation_args.specs.rules.Arguments.{moon_of}
use Rattle.nutation_args.specs.rules.Sum.{summed, none, converted}
use Rattle.nutation_table.specs.rules.Rows.{rows}

unfoldable pub nutation_of : Float → Nutations
nutation_of day = converted (summed rows (moon_of (century_of day)) none)

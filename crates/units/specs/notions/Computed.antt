-- What a theorem opens that works rules out at stated inputs: units and the nearest whole number, over the operations on doubles.
use Rattle.std.specs.Prelude.{ℕ}
use Rattle.double.specs.notions.Computed as double
use Rattle.units.specs.rules.Nearest.{nearest_whole}

-- a name for the line below it, which is what counts
unfoldable pub computed : ℕ
unfolding double.computed nearest_whole
computed = 0

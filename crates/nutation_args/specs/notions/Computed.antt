-- What a theorem opens that works rules out at stated inputs: the arguments of nutation and its sums.
use Rattle.std.specs.Prelude.{ℕ}
use Rattle.elementary.specs.notions.Computed as elementary
use Rattle.helpers.specs.notions.Computed as helpers
use Rattle.nutation_args.specs.rules.Arguments.{moon_m1, sun_m, moon_d, moon_f, moon_node, in_turn, moon_from, moon_of}
use Rattle.nutation_args.specs.rules.Sum.{with_row, summed, converted}

-- a name for the line below it, which is what counts
unfoldable pub computed : ℕ
unfolding elementary.computed helpers.computed moon_m1 sun_m moon_d moon_f moon_node in_turn moon_from moon_of with_row summed converted
computed = 0

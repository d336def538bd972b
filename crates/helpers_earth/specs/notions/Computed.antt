-- What a theorem opens that works rules out at stated inputs: the figure of the Earth, over the elementary functions.
use Rattle.std.specs.Prelude.{ℕ}
use Rattle.elementary_arc.specs.notions.Computed as elementary
use Rattle.helpers_earth.specs.rules.Earth.{rho_in}

-- a name for the line below it, which is what counts
unfoldable pub computed : ℕ
unfolding elementary.computed rho_in
computed = 0

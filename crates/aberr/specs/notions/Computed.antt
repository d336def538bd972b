-- What a theorem opens that works rules out at stated inputs: aberration. The sums of the Earth's velocity stay shut.
use Rattle.std.specs.Prelude.{ℕ}
use Rattle.elementary.specs.notions.Computed as elementary
use Rattle.aberr.specs.rules.Sun.{sol_aberr_of}
use Rattle.aberr.specs.rules.Star.{aberr_at, stell_aberr_in_eq_coords_in, stell_aberr_in_eq_coords_rule}

-- a name for the line below it, which is what counts
unfoldable pub computed : ℕ
unfolding elementary.computed sol_aberr_of aberr_at stell_aberr_in_eq_coords_in stell_aberr_in_eq_coords_rule
computed = 0

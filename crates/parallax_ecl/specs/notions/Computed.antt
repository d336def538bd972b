-- What a theorem opens that works rules out at stated inputs: topocentric ecliptic coordinates, over parallax.
use Rattle.std.specs.Prelude.{ℕ}
use Rattle.parallax.specs.notions.Computed as parallax
use Rattle.parallax_ecl.specs.rules.Ecliptic.{nearby, long_top, upward, lat_of_crate, lat_published, lat_top, semidiameter_in, ecliptic_from}
use Rattle.parallax_ecl.specs.rules.Ecliptic.{ecliptic_along, ecliptic_at, ecliptic_in}

-- a name for the line below it, which is what counts
unfoldable pub computed : ℕ
unfolding parallax.computed nearby long_top upward lat_of_crate lat_published lat_top semidiameter_in ecliptic_from ecliptic_along ecliptic_at ecliptic_in
computed = 0

-- What a theorem opens that works rules out at stated inputs: parallax, over the elementary functions and the Earth's figure.
use Rattle.std.specs.Prelude.{ℕ}
use Rattle.helpers.specs.notions.Computed as helpers
use Rattle.helpers_earth.specs.notions.Computed as earth
use Rattle.parallax.specs.rules.Horizontal.{sun_parallax, eq_hz_parallax_in}
use Rattle.parallax.specs.rules.Observer.{centre_of, observer_refusal}
use Rattle.parallax.specs.rules.Equatorial.{eastward, ahead, topocent_dec, topocent_from, topocent_at, topocent_in}

-- a name for the line below it, which is what counts
unfoldable pub computed : ℕ
unfolding helpers.computed earth.computed sun_parallax eq_hz_parallax_in centre_of observer_refusal eastward ahead topocent_dec topocent_from topocent_at topocent_in
computed = 0

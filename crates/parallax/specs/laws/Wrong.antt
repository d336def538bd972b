-- Wrong variants are excluded: each differs from the rule at the input stated. A rule varies: a library that refuses everything, or
-- answers a constant, does not meet it.
use Rattle.std.specs.Prelude.{refl, ◌≢◌}
use Rattle.std.specs.Float.Ieee.{neg}
use Rattle.double.specs.rules.Operations.{zero, half, one, two}
use Rattle.double.specs.laws.Apart.{apart}
use Rattle.quantity.specs.declared.EqPoint.{EqPoint}
use Rattle.quantity.specs.notions.Code.{of_rad, of_point, of_answer}
use Rattle.quantity.specs.notions.Varies.{Varies}
use Rattle.quantity.specs.notions.Stated.{r0, r½, origin}
use Rattle.parallax.specs.rules.Horizontal.{eq_hz_parallax_rule}
use Rattle.parallax.specs.rules.Equatorial.{topocent_eq_coords_rule}
use Rattle.parallax.specs.notions.Stated.{equator, polar}
use Rattle.parallax.specs.notions.Computed.{computed}
use Rattle.parallax.specs.notions.Wrong.{another_parallax, distance_multiplies, distance_not_refused, change_not_added, sine_of_parallax_is_cosine}
use Rattle.parallax.specs.notions.Wrong.{observer_not_steep}

-- ---- horizontal parallax

pub eq_hz_parallax_varies : Varies (eq_hz_parallax_rule one) (eq_hz_parallax_rule two)
unfolding computed
eq_hz_parallax_varies = record { here = refl; there = refl; apart = apart (of_answer of_rad) refl }

pub another_parallax_excluded : another_parallax one ≢ eq_hz_parallax_rule one
unfolding computed
another_parallax_excluded = apart (of_answer of_rad) refl

pub distance_multiplies_excluded : distance_multiplies two ≢ eq_hz_parallax_rule two
unfolding computed
distance_multiplies_excluded = apart (of_answer of_rad) refl

pub distance_not_refused_excluded : distance_not_refused (neg one) ≢ eq_hz_parallax_rule (neg one)
unfolding computed
distance_not_refused_excluded = apart (of_answer of_rad) refl

-- ---- equatorial coordinates

-- on the equator, right ascension 0.5
abbrev p½ : EqPoint
p½ = record { asc = half; dec = zero }

pub topocent_eq_coords_varies : Varies (topocent_eq_coords_rule p½ r½ equator zero r0) (topocent_eq_coords_rule origin r½ equator zero r0)
unfolding computed
topocent_eq_coords_varies = record { here = refl; there = refl; apart = apart (of_answer of_point) refl }

pub change_not_added_excluded : change_not_added p½ r½ equator zero r0 ≢ topocent_eq_coords_rule p½ r½ equator zero r0
unfolding computed
change_not_added_excluded = apart (of_answer of_point) refl

pub sine_of_parallax_is_cosine_excluded : sine_of_parallax_is_cosine p½ r0 equator zero r0 ≢ topocent_eq_coords_rule p½ r0 equator zero r0
unfolding computed
sine_of_parallax_is_cosine_excluded = apart (of_answer of_point) refl

pub observer_not_steep_excluded : observer_not_steep origin r0 polar zero r0 ≢ topocent_eq_coords_rule origin r0 polar zero r0
unfolding computed
observer_not_steep_excluded = apart (of_answer of_point) refl

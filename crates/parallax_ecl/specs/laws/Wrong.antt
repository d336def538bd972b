-- Wrong variants are excluded: each differs from the rule at the input stated. A rule varies: a library that refuses everything, or
-- answers a constant, does not meet it.
use Rattle.std.specs.Prelude.{refl, ◌≢◌}
use Rattle.double.specs.rules.Operations.{zero, half, one}
use Rattle.double.specs.laws.Apart.{apart}
use Rattle.quantity.specs.declared.EclPoint.{EclPoint}
use Rattle.quantity.specs.notions.Code.{of_rad, of_triple, of_answer}
use Rattle.quantity.specs.notions.Varies.{Varies}
use Rattle.quantity.specs.notions.Stated.{r0, r2}
use Rattle.edition.specs.declared.Edition.{Edition}
use Rattle.edition.specs.declared.Edition.TheVariants.{Crate, Published}
use Rattle.parallax.specs.notions.Stated.{equator}
use Rattle.parallax_ecl.specs.rules.Ecliptic.{lat_top, topopcent_ecl_coords_rule}
use Rattle.parallax_ecl.specs.notions.Computed.{computed}
use Rattle.parallax_ecl.specs.notions.Wrong.{longitude_is_latitude, numerator_keeps_cosine}

-- on the ecliptic, longitude 0.0 and 0.5
abbrev p0 : EclPoint
p0 = record { long = zero; lat = zero }

abbrev p½ : EclPoint
p½ = record { long = half; lat = zero }

-- longitude 2.0, where N is below zero, and latitude 0.5
abbrev p2 : EclPoint
p2 = record { long = r2.0; lat = half }

pub topopcent_ecl_coords_varies : (e : Edition)
    → Varies (topopcent_ecl_coords_rule e p½ r0 equator zero r0 r0 r0) (topopcent_ecl_coords_rule e p0 r0 equator zero r0 r0 r0)
unfolding computed
topopcent_ecl_coords_varies Crate = record { here = refl; there = refl; apart = apart (of_answer of_triple) refl }
topopcent_ecl_coords_varies Published = record { here = refl; there = refl; apart = apart (of_answer of_triple) refl }

pub longitude_is_latitude_excluded : (e : Edition)
    → longitude_is_latitude e p½ r0 equator zero r0 r0 r0 ≢ topopcent_ecl_coords_rule e p½ r0 equator zero r0 r0 r0
unfolding computed
longitude_is_latitude_excluded Crate = apart (of_answer of_triple) refl
longitude_is_latitude_excluded Published = apart (of_answer of_triple) refl

-- an edition ignored
pub topopcent_ecl_coords_by_edition : topopcent_ecl_coords_rule Published p2 r0 equator zero r0 r0 r0 ≢ topopcent_ecl_coords_rule Crate p2 r0 equator zero r0 r0 r0
unfolding computed
topopcent_ecl_coords_by_edition = apart (of_answer of_triple) refl

pub numerator_keeps_cosine_excluded : numerator_keeps_cosine half half one ≢ lat_top Published half half one
unfolding computed
numerator_keeps_cosine_excluded = apart (of_answer of_rad) refl

-- Wrong variants are excluded: each differs from the rule at the input stated. A rule varies: a library that refuses everything, or
-- answers a constant, does not meet it.
use Rattle.std.specs.Prelude.{refl, ◌≢◌}
use Rattle.double.specs.rules.Operations.{bits}
use Rattle.double.specs.laws.Apart.{apart}
use Rattle.quantity.specs.declared.Rad.{Rad}
use Rattle.quantity.specs.notions.Code.{of_rad, of_answer}
use Rattle.quantity.specs.notions.Varies.{Varies}
use Rattle.quantity.specs.notions.Stated.{r0, r½}
use Rattle.elementary_arc.specs.notions.Computed.{computed}
use Rattle.coords_gal.specs.rules.Galactic.{round_pole, gal_long_in, gal_long_frm_eq_rule, gal_lat_in, gal_lat_frm_eq_rule, asc_frm_gal_in, asc_frm_gal_rule}
use Rattle.coords_gal.specs.notions.Wrong.{galactic_longitude_forward, galactic_latitude_regrouped, galactic_centre_moved}

-- ---- longitude

pub gal_long_frm_eq_varies : Varies (gal_long_frm_eq_rule r½ r0) (gal_long_frm_eq_rule r0 r0)
unfolding computed round_pole gal_long_in
gal_long_frm_eq_varies = record { here = refl; there = refl; apart = apart (of_answer of_rad) refl }

pub galactic_longitude_forward_excluded : galactic_longitude_forward r0 r0 ≢ gal_long_frm_eq_rule r0 r0
unfolding computed round_pole gal_long_in
galactic_longitude_forward_excluded = apart (of_answer of_rad) refl

-- ---- latitude

pub gal_lat_frm_eq_varies : Varies (gal_lat_frm_eq_rule r½ r0) (gal_lat_frm_eq_rule r0 r0)
unfolding computed gal_lat_in
gal_lat_frm_eq_varies = record { here = refl; there = refl; apart = apart (of_answer of_rad) refl }

-- −1.5
abbrev low : Rad
low = record { 0 = bits 0xbff8000000000000 }

pub galactic_latitude_regrouped_excluded : galactic_latitude_regrouped r0 low ≢ gal_lat_frm_eq_rule r0 low
unfolding computed gal_lat_in
galactic_latitude_regrouped_excluded = apart (of_answer of_rad) refl

-- ---- right ascension

pub asc_frm_gal_varies : Varies (asc_frm_gal_rule r½ r0) (asc_frm_gal_rule r0 r0)
unfolding computed round_pole asc_frm_gal_in
asc_frm_gal_varies = record { here = refl; there = refl; apart = apart (of_answer of_rad) refl }

pub galactic_centre_moved_excluded : galactic_centre_moved r0 r0 ≢ asc_frm_gal_rule r0 r0
unfolding computed round_pole asc_frm_gal_in
galactic_centre_moved_excluded = apart (of_answer of_rad) refl

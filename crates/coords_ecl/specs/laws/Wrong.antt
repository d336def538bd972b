-- Wrong variants are excluded: each differs from the rule at the input stated. A rule varies: a library that refuses everything, or
-- answers a constant, does not meet it.
use Rattle.std.specs.Prelude.{refl, ◌≢◌}
use Rattle.std.specs.Float.Ieee.{neg}
use Rattle.double.specs.rules.Operations.{bits}
use Rattle.double.specs.laws.Apart.{apart}
use Rattle.quantity.specs.declared.Rad.{Rad}
use Rattle.quantity.specs.rules.Angle.{rad, HALF}
use Rattle.quantity.specs.notions.Code.{of_rad, of_answer}
use Rattle.quantity.specs.notions.Varies.{Varies}
use Rattle.quantity.specs.notions.Stated.{r0, r½}
use Rattle.elementary_arc.specs.notions.Computed.{computed}
use Rattle.coords_ecl.specs.rules.Point.{point_of}
use Rattle.coords_ecl.specs.rules.Ecliptic.{longitude_in, latitude_in, ecl_frm_eq_in, ecl_frm_eq_rule, asc_frm_ecl_in, asc_frm_ecl_rule, dec_frm_ecl_in, dec_frm_ecl_rule}
use Rattle.coords_ecl.specs.notions.Code.{of_ecl_point}
use Rattle.coords_ecl.specs.notions.Wrong.{tangent_is_sine, latitude_without_its_minus, angles_traded, latitude_refused_first, latitude_clamped}
use Rattle.coords_ecl.specs.notions.Wrong.{declination_not_steep, asc_from_the_mirror, dec_with_the_cosine}

-- a right ascension of minus a quarter turn
abbrev west : Rad
west = rad (neg HALF)

-- ---- both in one point

pub ecl_frm_eq_varies : Varies (ecl_frm_eq_rule r½ r0 r0) (ecl_frm_eq_rule r0 r0 r0)
unfolding computed point_of longitude_in latitude_in ecl_frm_eq_in
ecl_frm_eq_varies = record { here = refl; there = refl; apart = apart (of_answer of_ecl_point) refl }

pub tangent_is_sine_excluded : tangent_is_sine r0 r½ r½ ≢ ecl_frm_eq_rule r0 r½ r½
unfolding computed point_of longitude_in latitude_in ecl_frm_eq_in
tangent_is_sine_excluded = apart (of_answer of_ecl_point) refl

pub latitude_without_its_minus_excluded : latitude_without_its_minus r½ r0 r½ ≢ ecl_frm_eq_rule r½ r0 r½
unfolding computed point_of longitude_in latitude_in ecl_frm_eq_in
latitude_without_its_minus_excluded = apart (of_answer of_ecl_point) refl

pub angles_traded_excluded : angles_traded r½ r0 r0 ≢ ecl_frm_eq_rule r½ r0 r0
unfolding computed point_of longitude_in latitude_in ecl_frm_eq_in
angles_traded_excluded = apart (of_answer of_ecl_point) refl

-- declination 1.5706052715566496, obliquity 0.00019105523824691772: the longitude alone is refused by 4, the latitude alone by 7
pub latitude_refused_first_excluded : latitude_refused_first west (rad (bits 0x3ff92132fe442d18)) (rad (bits 0x3f290ac000000000)) ≢ ecl_frm_eq_rule west (rad (bits 0x3ff92132fe442d18)) (rad (bits 0x3f290ac000000000))
unfolding computed point_of longitude_in latitude_in ecl_frm_eq_in
latitude_refused_first_excluded = apart (of_answer of_ecl_point) refl

-- declination 1.3832963267948966, obliquity 0.1875: the sum behind the latitude is the next double above 1.0
pub latitude_clamped_excluded : latitude_clamped west (rad (bits 0x3ff621fb54442d18)) (rad (bits 0x3fc8000000000000)) ≢ ecl_frm_eq_rule west (rad (bits 0x3ff621fb54442d18)) (rad (bits 0x3fc8000000000000))
unfolding computed point_of longitude_in latitude_in ecl_frm_eq_in
latitude_clamped_excluded = apart (of_answer of_ecl_point) refl

pub declination_not_steep_excluded : declination_not_steep r0 (rad HALF) r0 ≢ ecl_frm_eq_rule r0 (rad HALF) r0
unfolding computed point_of longitude_in latitude_in ecl_frm_eq_in
declination_not_steep_excluded = apart (of_answer of_ecl_point) refl

-- ---- right ascension

pub asc_frm_ecl_varies : Varies (asc_frm_ecl_rule r½ r0 r0) (asc_frm_ecl_rule r0 r0 r0)
unfolding computed asc_frm_ecl_in
asc_frm_ecl_varies = record { here = refl; there = refl; apart = apart (of_answer of_rad) refl }

pub asc_from_the_mirror_excluded : asc_from_the_mirror r0 r0 r0 ≢ asc_frm_ecl_rule r0 r0 r0
unfolding computed asc_frm_ecl_in
asc_from_the_mirror_excluded = apart (of_answer of_rad) refl

-- ---- declination

pub dec_frm_ecl_varies : Varies (dec_frm_ecl_rule r0 r½ r0) (dec_frm_ecl_rule r0 r0 r0)
unfolding computed dec_frm_ecl_in
dec_frm_ecl_varies = record { here = refl; there = refl; apart = apart (of_answer of_rad) refl }

pub dec_with_the_cosine_excluded : dec_with_the_cosine r0 r0 r½ ≢ dec_frm_ecl_rule r0 r0 r½
unfolding computed dec_frm_ecl_in
dec_with_the_cosine_excluded = apart (of_answer of_rad) refl

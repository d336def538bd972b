-- Wrong variants are excluded: each differs from the rule at the input stated. A rule varies: a library that refuses everything, or
-- answers a constant, does not meet it.
use Rattle.std.specs.Prelude.{refl, ◌≢◌}
use Rattle.double.specs.rules.Operations.{bits, zero, one}
use Rattle.double.specs.laws.Apart.{apart}
use Rattle.quantity.specs.declared.Deg.{Deg}
use Rattle.quantity.specs.rules.Angle.{deg}
use Rattle.quantity.specs.notions.Code.{of_deg, of_triple, of_answer}
use Rattle.quantity.specs.notions.Stated.{r0, r½, r1}
use Rattle.quantity.specs.notions.Varies.{Varies}
use Rattle.helpers.specs.rules.Circle.{half_turn, on_circle}
use Rattle.heading.specs.rules.Sky.{northward, bearings, sky_in, sky_under}
use Rattle.heading.specs.rules.Mark.{mark_in, mark_heading_rule}
use Rattle.heading.specs.notions.Computed.{computed}
use Rattle.heading.specs.notions.Wrong.{whole_turn_kept, south_for_north, east_for_west, not_folded, quarter_for_half, opposite_heading}
use Rattle.heading.specs.notions.Wrong.{bearings_in_radians, altitude_for_azimuth, longitude_east}
use Rattle.heading.specs.notions.Wrong.{sidereal_forgotten, readings_traded, counter_clockwise, mark_from_north}

-- 0.0, 1.0 and 180.0 degrees, and less than none by 2^−1074
abbrev d0 : Deg
d0 = deg zero

abbrev d1 : Deg
d1 = deg one

abbrev south : Deg
south = deg half_turn

abbrev below_none : Deg
below_none = deg (bits 0x8000000000000001)

-- ---- the circle

pub whole_turn_kept_excluded : whole_turn_kept below_none ≢ on_circle below_none
unfolding computed
whole_turn_kept_excluded = apart of_deg refl

-- ---- the turn from south to north

-- due south, which is 180
pub south_for_north_excluded : south_for_north d0 ≢ northward d0
unfolding computed
south_for_north_excluded = apart of_deg refl

-- a degree west of south
pub east_for_west_excluded : east_for_west d1 ≢ northward d1
unfolding computed
east_for_west_excluded = apart of_deg refl

-- due north
pub not_folded_excluded : not_folded south ≢ northward south
unfolding computed
not_folded_excluded = apart of_deg refl

-- due south
pub quarter_for_half_excluded : quarter_for_half d0 ≢ northward d0
unfolding computed
quarter_for_half_excluded = apart of_deg refl

-- ---- a star in the sky

-- a star due north, on the meridian
pub opposite_heading_excluded : opposite_heading r0 r½ r0 ≢ sky_in r0 r½ r0
unfolding computed
opposite_heading_excluded = apart (of_answer of_triple) refl

pub bearings_in_radians_excluded : bearings_in_radians r1 r½ ≢ bearings r1 r½
unfolding computed
bearings_in_radians_excluded = apart (of_answer of_triple) refl

pub altitude_for_azimuth_excluded : altitude_for_azimuth r1 r½ ≢ bearings r1 r½
unfolding computed
altitude_for_azimuth_excluded = apart (of_answer of_triple) refl

pub sky_in_varies : Varies (sky_in r1 r0 r½) (sky_in r0 r0 r½)
unfolding computed
sky_in_varies = record { here = refl; there = refl; apart = apart (of_answer of_triple) refl }

pub longitude_east_excluded : longitude_east r0 r0 r0 r1 r½ ≢ sky_under r0 r0 r0 r1 r½
unfolding computed
longitude_east_excluded = apart (of_answer of_triple) refl

pub sidereal_forgotten_excluded : sidereal_forgotten r1 r0 r0 r0 r½ ≢ sky_under r1 r0 r0 r0 r½
unfolding computed
sidereal_forgotten_excluded = apart (of_answer of_triple) refl

-- ---- a mark

pub mark_heading_varies : Varies (mark_heading_rule d0 d0 d1) (mark_heading_rule d0 d0 d0)
unfolding computed
mark_heading_varies = record { here = refl; there = refl; apart = apart (of_answer of_deg) refl }

pub readings_traded_excluded : readings_traded d0 d0 d1 ≢ mark_in d0 d0 d1
unfolding computed
readings_traded_excluded = apart of_deg refl

pub counter_clockwise_excluded : counter_clockwise d0 d0 d1 ≢ mark_in d0 d0 d1
unfolding computed
counter_clockwise_excluded = apart of_deg refl

pub mark_from_north_excluded : mark_from_north d0 d1 d1 ≢ mark_in d0 d1 d1
unfolding computed
mark_from_north_excluded = apart of_deg refl

-- Wrong variants are excluded: each differs from the rule at the input stated. The rule varies: a library that refuses everything, or
-- answers a constant, does not meet it.
use Rattle.std.specs.Prelude.{refl, ◌≢◌}
use Rattle.double.specs.rules.Operations.{bits, zero, one}
use Rattle.double.specs.laws.Apart.{apart}
use Rattle.quantity.specs.declared.Deg.{Deg}
use Rattle.quantity.specs.declared.EqPoint.{EqPoint}
use Rattle.quantity.specs.declared.GeographPoint.{GeographPoint}
use Rattle.quantity.specs.rules.Angle.{rad, deg}
use Rattle.quantity.specs.notions.Code.{of_rad, of_float, of_triple, of_answer, unread}
use Rattle.quantity.specs.notions.Varies.{Varies}
use Rattle.quantity.specs.notions.Stated.{r0, r½, r1, origin, north_pole}
use Rattle.transit.specs.rules.RiseCulmSet.{rise_culm_set_rule}
use Rattle.transit.specs.rules.Clock.{clock_of, again_of}
use Rattle.transit.specs.rules.Observer.{planned_of, observer_in_degrees}
use Rattle.transit.specs.declared.Observer.{Observer}
use Rattle.transit.specs.notions.Stated.{equator, west_of_it, north_of_it, pole, zenith, nadir}
use Rattle.transit.specs.notions.Computed.{computed}
use Rattle.transit.specs.notions.Wrong.{rise_and_set_traded, fold_left_out, arc_halved, culmination_folded_first, longitude_taken_as_east, culmination_regrouped}
use Rattle.transit.specs.notions.Wrong.{fifteen_and_sixteen_traded, limit_taken_in, quotient_not_tested}
use Rattle.transit.specs.notions.Wrong.{arcsine_for_arccosine, altitude_passed_over, declination_not_steep, latitude_not_steep, altitude_steep}
use Rattle.transit.specs.notions.Wrong.{status_passed_over, degrees_as_radians, longitude_for_latitude}
use Rattle.transit.specs.notions.Wrong.{ratio_multiplied, fraction_as_clock, again_a_day_later}

pub rise_culm_set_varies : Varies (rise_culm_set_rule origin r0 west_of_it r0) (rise_culm_set_rule origin r0 equator r0)
unfolding computed
rise_culm_set_varies = record { here = refl; there = refl; apart = apart (of_answer of_triple) refl }

-- ---- the fractions

pub rise_and_set_traded_excluded : rise_and_set_traded origin r0 equator r0 ≢ rise_culm_set_rule origin r0 equator r0
unfolding computed
rise_and_set_traded_excluded = apart (of_answer of_triple) refl

pub fold_left_out_excluded : fold_left_out origin r0 equator r0 ≢ rise_culm_set_rule origin r0 equator r0
unfolding computed
fold_left_out_excluded = apart (of_answer of_triple) refl

pub arc_halved_excluded : arc_halved origin r0 equator r0 ≢ rise_culm_set_rule origin r0 equator r0
unfolding computed
arc_halved_excluded = apart (of_answer of_triple) refl

-- at the sidereal time 0.5, the culmination below zero
pub culmination_folded_first_excluded : culmination_folded_first origin r½ equator r0 ≢ rise_culm_set_rule origin r½ equator r0
unfolding computed
culmination_folded_first_excluded = apart (of_answer of_triple) refl

-- ---- the culmination

pub longitude_taken_as_east_excluded : longitude_taken_as_east origin r0 west_of_it r0 ≢ rise_culm_set_rule origin r0 west_of_it r0
unfolding computed
longitude_taken_as_east_excluded = apart (of_answer of_triple) refl

-- 0.1, 0.2 and 0.3
abbrev tenth : EqPoint
tenth = record { asc = bits 0x3fb999999999999a; dec = zero }

abbrev fifth : GeographPoint
fifth = record { long = bits 0x3fc999999999999a; lat = zero }

pub culmination_regrouped_excluded : culmination_regrouped tenth (rad (bits 0x3fd3333333333333)) fifth r0
    ≢ rise_culm_set_rule tenth (rad (bits 0x3fd3333333333333)) fifth r0
unfolding computed
culmination_regrouped_excluded = apart (of_answer of_triple) refl

-- ---- the arc

pub fifteen_and_sixteen_traded_excluded : fifteen_and_sixteen_traded origin r0 north_of_it r1 ≢ rise_culm_set_rule origin r0 north_of_it r1
unfolding computed
fifteen_and_sixteen_traded_excluded = apart (of_answer unread) refl

pub quotient_not_tested_excluded : quotient_not_tested origin r0 north_of_it r1 ≢ rise_culm_set_rule origin r0 north_of_it r1
unfolding computed
quotient_not_tested_excluded = apart (of_answer unread) refl

-- a quotient of exactly 1, and of exactly −1
pub limit_of_fifteen_taken_in_excluded : limit_taken_in origin r0 equator zenith ≢ rise_culm_set_rule origin r0 equator zenith
unfolding computed
limit_of_fifteen_taken_in_excluded = apart (of_answer unread) refl

pub limit_of_sixteen_taken_in_excluded : limit_taken_in origin r0 equator nadir ≢ rise_culm_set_rule origin r0 equator nadir
unfolding computed
limit_of_sixteen_taken_in_excluded = apart (of_answer unread) refl

pub arcsine_for_arccosine_excluded : arcsine_for_arccosine origin r0 equator r0 ≢ rise_culm_set_rule origin r0 equator r0
unfolding computed
arcsine_for_arccosine_excluded = apart (of_answer of_triple) refl

pub altitude_passed_over_excluded : altitude_passed_over origin r0 equator r1 ≢ rise_culm_set_rule origin r0 equator r1
unfolding computed
altitude_passed_over_excluded = apart (of_answer of_triple) refl

-- ---- the refusals

pub declination_not_steep_excluded : declination_not_steep north_pole r0 equator r0 ≢ rise_culm_set_rule north_pole r0 equator r0
unfolding computed
declination_not_steep_excluded = apart (of_answer unread) refl

pub latitude_not_steep_excluded : latitude_not_steep origin r0 pole r0 ≢ rise_culm_set_rule origin r0 pole r0
unfolding computed
latitude_not_steep_excluded = apart (of_answer unread) refl

-- a standard altitude beyond 1.57 is answered
pub altitude_steep_excluded : altitude_steep origin r0 equator zenith ≢ rise_culm_set_rule origin r0 equator zenith
unfolding computed
altitude_steep_excluded = apart (of_answer unread) refl

-- ---- an observer's plan

abbrev on_equator : Observer
on_equator = record { sidereal = r0; site = equator; alt = r0 }

pub status_passed_over_excluded : status_passed_over 9 r0 r0 on_equator ≢ planned_of 9 r0 r0 on_equator
unfolding computed
status_passed_over_excluded = apart (of_answer unread) refl

-- 0.0 and 100.0 degrees
abbrev none : Deg
none = deg zero

abbrev hundred : Deg
hundred = deg (bits 0x4059000000000000)

pub degrees_as_radians_excluded : degrees_as_radians hundred none none none ≢ observer_in_degrees hundred none none none
unfolding computed
degrees_as_radians_excluded = apart (λ (o : Observer). of_rad o.sidereal) refl

pub longitude_for_latitude_excluded : longitude_for_latitude none hundred none none ≢ observer_in_degrees none hundred none none
unfolding computed
longitude_for_latitude_excluded = apart (λ (o : Observer). of_float o.site.lat) refl

-- ---- by the clock

pub ratio_multiplied_excluded : ratio_multiplied one ≢ clock_of one
unfolding computed
ratio_multiplied_excluded = apart of_float refl

pub fraction_as_clock_excluded : fraction_as_clock one ≢ clock_of one
unfolding computed
fraction_as_clock_excluded = apart of_float refl

pub again_a_day_later_excluded : again_a_day_later zero ≢ again_of zero
unfolding computed
again_a_day_later_excluded = apart of_float refl

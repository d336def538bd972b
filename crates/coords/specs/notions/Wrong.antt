-- Wrong variants of hour angles and horizontal coordinates.
use Rattle.std.specs.Prelude.{cond, Float}
use Rattle.double.specs.rules.Operations.{bits, zero, one, ◌⊕◌, ◌⊖◌, ◌⊗◌, ◌⊘◌}
use Rattle.quantity.specs.declared.Rad.{Rad}
use Rattle.quantity.specs.rules.Angle.{rad}
use Rattle.quantity.specs.rules.Answer.{Answer, answered, unless}
use Rattle.quantity.specs.rules.Refusal.{lower, angle_refusal, latitude_refusal}
use Rattle.elementary.specs.rules.Sine.{sine_of, cosine_of, tangent_of}
use Rattle.elementary_arc.specs.rules.Arctangent.{both_zero, arctangent_in}
use Rattle.elementary_arc.specs.rules.Arcsine.{arcsine_in}
use Rattle.coords.specs.rules.Arguments.{sky_refusal, steep_sky_refusal}
use Rattle.coords.specs.rules.HourAngle.{observer_long_refusal, loc_sidr_refusal}
use Rattle.coords.specs.rules.Horizon.{southward, azimuth_in, az_frm_eq_rule, altitude_in}

-- 2·PI
abbrev turn : Float
turn = bits 0x401921fb54442d18

-- ---- hour angles

abbrev pub longitude_added : Rad → Rad → Rad → Answer Rad
longitude_added g l a = unless (observer_long_refusal g l a) (answered (rad ((g.0 ⊕ l.0) ⊖ a.0)))

-- a turn too much
abbrev pub local_time_negated : Rad → Rad → Answer Rad
local_time_negated s a = unless (loc_sidr_refusal s a) (answered (rad (s.0 ⊖ a.0 ⊕ turn)))

-- ---- azimuth

-- the tangent added
abbrev pub opposite_quadrant : Rad → Rad → Rad → Answer Rad
opposite_quadrant h d p =
    unless (steep_sky_refusal h d p) (arctangent_in (sine_of h) (cosine_of h ⊗ sine_of p ⊕ tangent_of d ⊗ cosine_of p))

-- those of the hour angle
abbrev pub sine_and_cosine_traded : Rad → Rad → Rad → Answer Rad
sine_and_cosine_traded h d p =
    unless (steep_sky_refusal h d p) (arctangent_in (cosine_of h) (sine_of h ⊗ sine_of p ⊖ tangent_of d ⊗ cosine_of p))

-- by a turn, before its sine is taken
abbrev pub hour_angle_reduced_first : Rad → Rad → Rad → Answer Rad
hour_angle_reduced_first h d p = unless (steep_sky_refusal h d p) (azimuth_in (record { 0 = h.0 ⊕ turn }) d p)

abbrev pub latitude_for_declination : Rad → Rad → Rad → Answer Rad
latitude_for_declination h d p = az_frm_eq_rule h p d

-- a declination past 1.57 let in
abbrev pub declination_not_steep : Rad → Rad → Rad → Answer Rad
declination_not_steep h d p = unless (sky_refusal h d p) (azimuth_in h d p)

-- 14 turned into an angle
abbrev pub zenith_is_south : Rad → Rad → Rad → Answer Rad
zenith_is_south h d p =
    unless (steep_sky_refusal h d p) (cond (both_zero (sine_of h) (southward h d p)) (answered (rad zero)) (azimuth_in h d p))

-- ---- altitude

abbrev pub altitude_regrouped : Rad → Rad → Rad → Answer Rad
altitude_regrouped h d p =
    unless (sky_refusal h d p) (arcsine_in (sine_of p ⊗ sine_of d ⊕ cosine_of p ⊗ (cosine_of d ⊗ cosine_of h)))

-- for the observer's latitude
abbrev pub limit_of_an_angle_for_a_latitude : Rad → Rad → Rad → Answer Rad
limit_of_an_angle_for_a_latitude h d p =
    unless (lower (angle_refusal h) (lower (latitude_refusal d) (angle_refusal p))) (altitude_in h d p)

-- ---- from horizontal coordinates

-- the quadrant is lost
abbrev pub hour_angle_of_the_ratio : Rad → Rad → Rad → Answer Rad
hour_angle_of_the_ratio z a p =
    unless (steep_sky_refusal z a p)
    (arctangent_in (sine_of z ⊘ (cosine_of z ⊗ sine_of p ⊕ tangent_of a ⊗ cosine_of p)) one)

abbrev pub cosine_of_azimuth_once : Rad → Rad → Rad → Answer Rad
cosine_of_azimuth_once z a p = unless (sky_refusal z a p) (arcsine_in (sine_of p ⊗ sine_of a ⊖ cosine_of p ⊗ cosine_of z))

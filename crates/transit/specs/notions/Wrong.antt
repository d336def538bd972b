-- Wrong variants of rise, culmination and set.
use Rattle.std.specs.Prelude.{ℕ, cond, Float}
use Rattle.std.specs.Float.Ieee.{neg, le, lt}
use Rattle.double.specs.rules.Operations.{zero, one, ◌⊕◌, ◌⊖◌, ◌⊗◌, ◌⊘◌}
use Rattle.quantity.specs.declared.Deg.{Deg}
use Rattle.quantity.specs.declared.Rad.{Rad}
use Rattle.quantity.specs.declared.EqPoint.{EqPoint}
use Rattle.quantity.specs.declared.GeographPoint.{GeographPoint}
use Rattle.quantity.specs.rules.Angle.{rad, HALF}
use Rattle.quantity.specs.rules.Answer.{Answer, answered, refused, Triple, triple, unless, then, taken_from}
use Rattle.quantity.specs.rules.Refusal.{lower, angle_refusal, latitude_refusal, steep_refusal}
use Rattle.elementary_arc.specs.rules.Arcsine.{arcsine_in}
use Rattle.helpers.specs.rules.Angle.{turn_in_radians}
use Rattle.transit.specs.rules.Arc.{arc_cosine, arc_in}
use Rattle.transit.specs.rules.RiseCulmSet.{within_a_day, culmination_of, fractions, rise_culm_set_in, observer_refusal, rise_culm_set_refusal, rise_culm_set_rule}
use Rattle.transit.specs.rules.Clock.{sidereal_days}
use Rattle.transit.specs.rules.Observer.{observer_in_degrees}
use Rattle.transit.specs.declared.Observer.{Observer}

-- with another arc of its cosine, another culmination, or other fractions of the two
abbrev by : (Float → Answer Rad) → (Rad → Rad → Rad → Float) → (Float → Rad → Answer Triple) → EqPoint → Rad → GeographPoint → Rad
    → Answer Triple
by arcOf culmination parts p sidereal site alt =
    unless (rise_culm_set_refusal p sidereal site alt)
    (then (arcOf (arc_cosine (rad p.dec) (rad site.lat) alt))
    (λ (arc : Rad). parts (culmination (rad p.asc) sidereal (rad site.long)) arc))

-- ---- the fractions

abbrev pub rise_and_set_traded : EqPoint → Rad → GeographPoint → Rad → Answer Triple
rise_and_set_traded =
    by arc_in culmination_of
    (λ (m : Float) (arc : Rad).
    let part = arc.0 ⊘ turn_in_radians in
    answered (triple (within_a_day (m ⊕ part)) (within_a_day m) (within_a_day (m ⊖ part))))

abbrev pub fold_left_out : EqPoint → Rad → GeographPoint → Rad → Answer Triple
fold_left_out =
    by arc_in culmination_of
    (λ (m : Float) (arc : Rad). let part = arc.0 ⊘ turn_in_radians in answered (triple (m ⊖ part) m (m ⊕ part)))

-- the whole arc from rise to set taken for its half
abbrev pub arc_halved : EqPoint → Rad → GeographPoint → Rad → Answer Triple
arc_halved = by arc_in culmination_of (λ (m : Float) (arc : Rad). fractions m (rad (arc.0 ⊘ (one ⊕ one))))

-- rise and set taken from the culmination once that is folded
abbrev pub culmination_folded_first : EqPoint → Rad → GeographPoint → Rad → Answer Triple
culmination_folded_first = by arc_in culmination_of (λ (m : Float) (arc : Rad). fractions (within_a_day m) arc)

-- ---- the culmination

abbrev pub longitude_taken_as_east : EqPoint → Rad → GeographPoint → Rad → Answer Triple
longitude_taken_as_east =
    by arc_in (λ (asc sidereal long : Rad). ((asc.0 ⊖ long.0) ⊖ sidereal.0) ⊘ turn_in_radians) fractions

-- right ascension + (longitude − sidereal time)
abbrev pub culmination_regrouped : EqPoint → Rad → GeographPoint → Rad → Answer Triple
culmination_regrouped =
    by arc_in (λ (asc sidereal long : Rad). (asc.0 ⊕ (long.0 ⊖ sidereal.0)) ⊘ turn_in_radians) fractions

-- ---- the arc

abbrev pub fifteen_and_sixteen_traded : EqPoint → Rad → GeographPoint → Rad → Answer Triple
fifteen_and_sixteen_traded =
    by
    (λ (c : Float). cond (lt one c) (refused 16) (cond (lt c (neg one)) (refused 15) (taken_from (rad HALF) (arcsine_in c))))
    culmination_of fractions

-- a quotient of 1 or −1 refused
abbrev pub limit_taken_in : EqPoint → Rad → GeographPoint → Rad → Answer Triple
limit_taken_in =
    by
    (λ (c : Float). cond (le one c) (refused 15) (cond (le c (neg one)) (refused 16) (taken_from (rad HALF) (arcsine_in c))))
    culmination_of fractions

-- left to the arcsine, which gives 7
abbrev pub quotient_not_tested : EqPoint → Rad → GeographPoint → Rad → Answer Triple
quotient_not_tested = by (λ (c : Float). taken_from (rad HALF) (arcsine_in c)) culmination_of fractions

-- the arcsine taken for the arccosine
abbrev pub arcsine_for_arccosine : EqPoint → Rad → GeographPoint → Rad → Answer Triple
arcsine_for_arccosine = by arcsine_in culmination_of fractions

-- the altitude tested, and that of the horizon taken
abbrev pub altitude_passed_over : EqPoint → Rad → GeographPoint → Rad → Answer Triple
altitude_passed_over p sidereal site alt = unless (rise_culm_set_refusal p sidereal site alt) (rise_culm_set_in p sidereal site (rad zero))

-- ---- the refusals

-- 3 where 4 is meant, for the declination
abbrev pub declination_not_steep : EqPoint → Rad → GeographPoint → Rad → Answer Triple
declination_not_steep p sidereal site alt =
    unless (lower (lower (angle_refusal (rad p.asc)) (latitude_refusal (rad p.dec))) (observer_refusal sidereal site alt))
    (rise_culm_set_in p sidereal site alt)

-- with other refusals of the observer's latitude and of the altitude
abbrev observed : (Rad → ℕ) → (Rad → ℕ) → EqPoint → Rad → GeographPoint → Rad → Answer Triple
observed latRefusal alt_refusal p sidereal site alt =
    unless
    (lower (lower (angle_refusal (rad p.asc)) (steep_refusal (rad p.dec)))
    (lower (lower (angle_refusal (rad site.long)) (latRefusal (rad site.lat))) (lower (angle_refusal sidereal) (alt_refusal alt))))
    (rise_culm_set_in p sidereal site alt)

-- 3 where 4 is meant, for the observer's latitude
abbrev pub latitude_not_steep : EqPoint → Rad → GeographPoint → Rad → Answer Triple
latitude_not_steep = observed latitude_refusal latitude_refusal

-- 4 asked of the standard altitude too
abbrev pub altitude_steep : EqPoint → Rad → GeographPoint → Rad → Answer Triple
altitude_steep = observed steep_refusal steep_refusal

-- ---- an observer's plan

-- of a star that was refused
abbrev pub status_passed_over : ℕ → Rad → Rad → Observer → Answer Triple
status_passed_over status asc dec o = rise_culm_set_rule (record { asc = asc.0; dec = dec.0 }) o.sidereal o.site o.alt

-- degrees taken for radians
abbrev pub degrees_as_radians : Deg → Deg → Deg → Deg → Observer
degrees_as_radians sidereal long lat alt =
    record { sidereal = rad sidereal.0; site = record { long = long.0; lat = lat.0 }; alt = rad alt.0 }

abbrev pub longitude_for_latitude : Deg → Deg → Deg → Deg → Observer
longitude_for_latitude sidereal long lat alt = observer_in_degrees sidereal lat long alt

-- ---- by the clock

-- the ratio the other way
abbrev pub ratio_multiplied : Float → Float
ratio_multiplied fraction = fraction ⊗ sidereal_days

-- the fraction of the sidereal day shown as the clock's
abbrev pub fraction_as_clock : Float → Float
fraction_as_clock fraction = fraction

-- a day by the clock later
abbrev pub again_a_day_later : Float → Float
again_a_day_later culmination = culmination ⊕ one

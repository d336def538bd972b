-- Wrong variants of headings.
use Rattle.std.specs.Prelude.{pos, Float}
use Rattle.std.specs.Float.Ieee.{neg}
use Rattle.double.specs.rules.Operations.{bits, ◌⊕◌, ◌⊖◌}
use Rattle.quantity.specs.declared.Deg.{Deg}
use Rattle.quantity.specs.declared.Rad.{Rad}
use Rattle.quantity.specs.rules.Angle.{deg, rad, opposite}
use Rattle.quantity.specs.rules.Answer.{Answer, answered, Pair, first, second, Triple, triple, then}
use Rattle.edition.specs.declared.Edition.{Edition}
use Rattle.edition.specs.declared.Edition.TheVariants.{Crate}
use Rattle.units.specs.rules.Degrees.{to_degrees}
use Rattle.helpers.specs.rules.Angle.{within360}
use Rattle.coords.specs.notions.Wrong.{opposite_quadrant}
use Rattle.list.specs.declared.Star.{Star}
use Rattle.batch.specs.rules.Star.{star_rule}
use Rattle.sidereal.specs.rules.Mean.{mean_of}
use Rattle.helpers.specs.rules.Circle.{half_turn, on_circle}
use Rattle.heading.specs.rules.Sky.{northward, sky_from, sky_under}
use Rattle.heading.specs.rules.Heading.{heading_in}
use Rattle.heading.specs.rules.Mark.{mark_in}

-- ---- the circle

-- the whole turn that a fold rounds to
abbrev pub whole_turn_kept : Deg → Deg
whole_turn_kept x = within360 x

-- ---- the turn from south to north

abbrev pub south_for_north : Deg → Deg
south_for_north az = on_circle az

abbrev pub east_for_west : Deg → Deg
east_for_west az = northward (deg (neg az.0))

abbrev pub not_folded : Deg → Deg
not_folded az = deg (az.0 ⊕ half_turn)

-- 90.0 for 180.0
abbrev pub quarter_for_half : Deg → Deg
quarter_for_half az = on_circle (deg (az.0 ⊕ bits 0x4056800000000000))

-- ---- a star in the sky

-- the heading in the opposite quadrant: the tangent added in the azimuth's second argument
abbrev pub opposite_heading : Rad → Rad → Rad → Answer Triple
opposite_heading h dec lat = then (opposite_quadrant h dec lat) (λ (az : Rad). sky_from az h dec lat)

-- radians for degrees
abbrev pub bearings_in_radians : Rad → Rad → Answer Triple
bearings_in_radians az alt = answered (triple (northward (deg az.0)).0 az.0 alt.0)

abbrev pub altitude_for_azimuth : Rad → Rad → Answer Triple
altitude_for_azimuth az alt = answered (triple (northward (to_degrees alt)).0 (to_degrees az).0 (to_degrees alt).0)

-- positive east
abbrev pub longitude_east : Rad → Rad → Rad → Rad → Rad → Answer Triple
longitude_east sidereal asc dec long lat = sky_under sidereal asc dec (opposite long) lat

-- as at 0h of sidereal time, whatever the moment
abbrev pub sidereal_forgotten : Rad → Rad → Rad → Rad → Rad → Answer Triple
sidereal_forgotten sidereal asc dec long lat = sky_under (rad (sidereal.0 ⊖ sidereal.0)) asc dec long lat

-- ---- a star by its record

abbrev pub stays : Star → Star
stays star = record { number = star.number; asc = star.asc; dec = star.dec; asc_rate = pos 0; dec_rate = pos 0 }

abbrev pub rates_forgotten : Edition → Star → Float → Float → Rad → Rad → Answer Triple
rates_forgotten edition star day1 day2 long lat = heading_in edition (stays star) day1 day2 long lat

abbrev pub edition_ignored : Edition → Star → Float → Float → Rad → Rad → Answer Triple
edition_ignored edition star day1 day2 long lat = heading_in Crate star day1 day2 long lat

-- nutation left out of sidereal time
abbrev pub mean_for_apparent : Edition → Star → Float → Float → Rad → Rad → Answer Triple
mean_for_apparent edition star day1 day2 long lat =
    then (star_rule edition star day1 day2) (λ (p : Pair). sky_under (mean_of day2) (rad (first p)) (rad (second p)) long lat)

-- ---- a mark

abbrev pub readings_traded : Deg → Deg → Deg → Deg
readings_traded heading star mark = mark_in heading mark star

-- a circle that counts the other way round
abbrev pub counter_clockwise : Deg → Deg → Deg → Deg
counter_clockwise heading star mark = on_circle (deg (heading.0 ⊖ (mark.0 ⊖ star.0)))

-- the star's reading forgotten
abbrev pub mark_from_north : Deg → Deg → Deg → Deg
mark_from_north heading star mark = on_circle (deg (heading.0 ⊕ mark.0))

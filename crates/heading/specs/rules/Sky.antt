-- A star in the sky: its heading, its azimuth and its altitude in degrees. Azimuth is counted from south, a heading from north, both clockwise.
use Rattle.double.specs.rules.Operations.{◌⊕◌}
use Rattle.quantity.specs.declared.Deg.{Deg}
use Rattle.quantity.specs.declared.Rad.{Rad}
use Rattle.quantity.specs.rules.Angle.{deg}
use Rattle.quantity.specs.rules.Answer.{Answer, answered, Triple, triple, then}
use Rattle.units.specs.rules.Degrees.{to_degrees}
use Rattle.coords.specs.rules.HourAngle.{hr_angl_frm_observer_long_rule}
use Rattle.coords.specs.rules.Horizon.{az_frm_eq_rule, alt_frm_eq_rule}
use Rattle.helpers.specs.rules.Circle.{half_turn, on_circle}

-- the turn from south to north
unfoldable pub northward : Deg → Deg
northward az = on_circle (deg (az.0 ⊕ half_turn))

-- from azimuth and altitude
unfoldable pub bearings : Rad → Rad → Answer Triple
bearings az alt = answered (triple (northward (to_degrees az)).0 (to_degrees az).0 (to_degrees alt).0)

-- from the azimuth, and the hour angle, the declination and the observer's latitude, of which the altitude is
unfoldable pub sky_from : Rad → Rad → Rad → Rad → Answer Triple
sky_from az h dec lat = then (alt_frm_eq_rule h dec lat) (λ (alt : Rad). bearings az alt)

unfoldable pub sky_in : Rad → Rad → Rad → Answer Triple
sky_in h dec lat = then (az_frm_eq_rule h dec lat) (λ (az : Rad). sky_from az h dec lat)

-- from the sidereal time at Greenwich, the star's place, and the observer's longitude and latitude
unfoldable pub sky_under : Rad → Rad → Rad → Rad → Rad → Answer Triple
sky_under sidereal asc dec long lat = then (hr_angl_frm_observer_long_rule sidereal long asc) (λ (h : Rad). sky_in h dec lat)

-- An observer and his night: the sidereal time at Greenwich at 0h, his site and the standard altitude; and what is planned for him.
use Rattle.std.specs.Prelude.{ℕ}
use Rattle.quantity.specs.declared.Deg.{Deg}
use Rattle.quantity.specs.declared.Rad.{Rad}
use Rattle.quantity.specs.declared.GeographPoint.{GeographPoint}
use Rattle.quantity.specs.rules.Answer.{Answer, Triple, unless}
use Rattle.helpers.specs.rules.Angle.{radians_of}
use Rattle.transit.specs.rules.RiseCulmSet.{observer_refusal, rise_culm_set_rule}
use Rattle.transit.specs.rules.Clock.{by_clock}
use Rattle.transit.specs.declared.Observer.{Observer}

abbrev pub plan_refusal : Observer → ℕ
plan_refusal o = observer_refusal o.sidereal o.site o.alt

-- rise, culmination and set by the clock, of a star that was given a status, 0 or a refusal, and two angles
unfoldable pub planned_of : ℕ → Rad → Rad → Observer → Answer Triple
planned_of status asc dec o =
    unless status (by_clock (rise_culm_set_rule (record { asc = asc.0; dec = dec.0 }) o.sidereal o.site o.alt))

-- a site from its longitude, west positive, and latitude in degrees
abbrev pub site_in_degrees : Deg → Deg → GeographPoint
site_in_degrees long lat = record { long = (radians_of long).0; lat = (radians_of lat).0 }

abbrev pub observer_at : Rad → Deg → Deg → Deg → Observer
observer_at sidereal long lat alt = record { sidereal = sidereal; site = site_in_degrees long lat; alt = radians_of alt }

abbrev pub observer_in_degrees : Deg → Deg → Deg → Deg → Observer
observer_in_degrees sidereal long lat alt = observer_at (radians_of sidereal) long lat alt

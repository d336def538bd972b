-- The place and the hour angle of a star whose heading was answered.
use Rattle.std.specs.Prelude.{◌≡◌, Float}
use Rattle.quantity.specs.declared.Rad.{Rad}
use Rattle.quantity.specs.rules.Angle.{rad}
use Rattle.quantity.specs.rules.Answer.{answered, Pair, first, second, Triple}
use Rattle.edition.specs.declared.Edition.{Edition}
use Rattle.list.specs.declared.Star.{Star}
use Rattle.coords.specs.rules.HourAngle.{hr_angl_frm_observer_long}
use Rattle.batch.specs.rules.Star.{star_rule}
use Rattle.sidereal.specs.rules.Apparent.{apparent_of}
use Rattle.heading.specs.rules.Sky.{sky_in}

-- the hour angle of a reduced place, on the day of the sight, for an observer of this longitude
abbrev pub hour_angle : Pair → Float → Rad → Rad
hour_angle place day2 long = hr_angl_frm_observer_long (apparent_of day2) long (rad (first place))

-- the batch answered the star's place, and the sky the rest
pub record Sighted (edition : Edition) (star : Star) (day1 day2 : Float) (long lat : Rad) (t : Triple) : Type 0 where
  pub place : Pair
  pub placed : star_rule edition star day1 day2 ≡ answered place
  pub seen : sky_in (hour_angle place day2 long) (rad (second place)) lat ≡ answered t

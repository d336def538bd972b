-- The equatorial horizontal parallax (Meeus, chapter 40).
use Rattle.std.specs.Prelude.{Float}
use Rattle.double.specs.rules.Operations.{◌⊘◌}
use Rattle.quantity.specs.declared.Rad.{Rad}
use Rattle.quantity.specs.rules.Angle.{deg}
use Rattle.quantity.specs.rules.Answer.{Answer, unless}
use Rattle.quantity.specs.rules.Refusal.{distance_refusal}
use Rattle.elementary.specs.rules.Sine.{sine_of}
use Rattle.elementary_arc.specs.rules.Arcsine.{arcsine_in}
use Rattle.helpers.specs.rules.Angle.{arc, radians_of}
use Rattle.parallax.specs.rules.Numbers.{n8·794}

-- the sine of 8.794 seconds
unfoldable pub sun_parallax : Float
sun_parallax = sine_of (radians_of (deg (arc n8·794)))

unfoldable pub eq_hz_parallax_in : Float → Answer Rad
eq_hz_parallax_in dist = arcsine_in (sun_parallax ⊘ dist)

abbrev pub eq_hz_parallax_rule : Float → Answer Rad
eq_hz_parallax_rule dist = unless (distance_refusal dist) (eq_hz_parallax_in dist)

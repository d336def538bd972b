-- Solar aberration (Meeus, chapter 25), in ecliptic longitude.
use Rattle.std.specs.Prelude.{Float}
use Rattle.std.specs.Float.Ieee.{neg}
use Rattle.double.specs.rules.Operations.{◌⊘◌}
use Rattle.quantity.specs.declared.Rad.{Rad}
use Rattle.quantity.specs.rules.Angle.{deg, rad}
use Rattle.quantity.specs.rules.Answer.{Answer, answered, unless}
use Rattle.quantity.specs.rules.Refusal.{distance_refusal}
use Rattle.helpers.specs.rules.Angle.{arc, radians_of}
use Rattle.aberr.specs.rules.Numbers.{n20·4898}

-- −(20.4898 seconds of arc, in radians) / R
unfoldable pub sol_aberr_of : Float → Rad
sol_aberr_of dist = rad (neg (radians_of (deg (arc n20·4898))).0 ⊘ dist)

abbrev pub sol_aberr_rule : Float → Answer Rad
sol_aberr_rule dist = unless (distance_refusal dist) (answered (sol_aberr_of dist))

-- The residual of a heading from a reference, both in degrees, in whole milliarcseconds.
use Rattle.std.specs.Prelude.{cond}
use Rattle.std.specs.Float.Ieee.{lt}
use Rattle.double.specs.rules.Operations.{◌⊖◌}
use Rattle.quantity.specs.declared.Deg.{Deg}
use Rattle.quantity.specs.rules.Angle.{deg}
use Rattle.units.specs.rules.Degrees.{milliarcseconds}
use Rattle.helpers.specs.rules.Angle.{turn_in_degrees, within360}
use Rattle.helpers.specs.rules.Circle.{half_turn}
use Rattle.residual_sheet.specs.declared.Residual.{Residual}
use Rattle.residual_sheet.specs.rules.Residual.{rounded}

-- 360.0 taken from what exceeds 180.0
unfoldable pub taken_back : Deg → Deg
taken_back x = cond (lt half_turn x.0) (deg (x.0 ⊖ turn_in_degrees)) x

-- heading less reference, through `limit_to_360`, on either side of north
unfoldable pub across : Deg → Deg → Deg
across reference heading = taken_back (within360 (deg (heading.0 ⊖ reference.0)))

-- times 3600000.0, to the nearest whole number, halves away from zero
unfoldable pub residual_from : Deg → Deg → Residual
residual_from reference heading = rounded (milliarcseconds (across reference heading))

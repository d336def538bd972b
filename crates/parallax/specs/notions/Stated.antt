-- Inputs at which theorems work rules out.
use Rattle.double.specs.rules.Operations.{zero}
use Rattle.quantity.specs.declared.GeographPoint.{GeographPoint}
use Rattle.quantity.specs.rules.Angle.{HALF}

-- longitude 0.0, on the equator and at the pole
abbrev pub equator : GeographPoint
equator = record { long = zero; lat = zero }

abbrev pub polar : GeographPoint
polar = record { long = zero; lat = HALF }

-- Inputs at which theorems work rules out.
use Rattle.double.specs.rules.Operations.{zero, one}
use Rattle.quantity.specs.declared.Rad.{Rad}
use Rattle.quantity.specs.declared.GeographPoint.{GeographPoint}
use Rattle.quantity.specs.rules.Angle.{rad, HALF, opposite}

-- on the equator at longitude 0.0 and 1.0, west of it; and at latitude 1.0
abbrev pub equator : GeographPoint
equator = record { long = zero; lat = zero }

abbrev pub west_of_it : GeographPoint
west_of_it = record { long = one; lat = zero }

abbrev pub north_of_it : GeographPoint
north_of_it = record { long = zero; lat = one }

-- at the pole
abbrev pub pole : GeographPoint
pole = record { long = zero; lat = HALF }

-- the zenith and the point opposite to it
abbrev pub zenith : Rad
zenith = rad HALF

abbrev pub nadir : Rad
nadir = opposite zenith

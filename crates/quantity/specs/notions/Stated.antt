-- Inputs at which theorems work rules out.
use Rattle.std.specs.Prelude.{Float}
use Rattle.double.specs.rules.Operations.{bits, zero, half, one, two}
use Rattle.quantity.specs.declared.Rad.{Rad}
use Rattle.quantity.specs.declared.EqPoint.{EqPoint}
use Rattle.quantity.specs.rules.Angle.{rad, HALF}

-- 0.0, 0.5, 1.0 and 2.0 radians
abbrev pub r0 : Rad
r0 = rad zero

abbrev pub r½ : Rad
r½ = rad half

abbrev pub r1 : Rad
r1 = rad one

abbrev pub r2 : Rad
r2 = rad two

-- 2415020.0, a century before the epoch
abbrev pub earlier : Float
earlier = bits 0x41426cd600000000

-- 2488070.0, a century after it
abbrev pub later : Float
later = bits 0x4142fb8300000000

-- on the equator where right ascension begins, and at the pole
abbrev pub origin : EqPoint
origin = record { asc = zero; dec = zero }

abbrev pub north_pole : EqPoint
north_pole = record { asc = zero; dec = HALF }

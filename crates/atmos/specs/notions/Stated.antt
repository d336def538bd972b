-- Altitudes at which theorems work rules out.
use Rattle.std.specs.Float.Ieee.{neg}
use Rattle.double.specs.rules.Operations.{bits, zero, one}
use Rattle.quantity.specs.declared.Deg.{Deg}
use Rattle.quantity.specs.rules.Angle.{deg}
use Rattle.atmos.specs.rules.Numbers.{n89·8}

-- both ends of the domain, 0.0 and 89.8, and 1.0
abbrev pub lowest : Deg
lowest = deg zero

abbrev pub highest : Deg
highest = deg n89·8

abbrev pub d1 : Deg
d1 = deg one

-- −0.0, which is 0.0 too
abbrev pub minus_lowest : Deg
minus_lowest = deg (neg zero)

-- the next doubles beyond the ends
abbrev pub below_lowest : Deg
below_lowest = deg (bits 0x8000000000000001)

abbrev pub above_highest : Deg
above_highest = deg (bits 0x4056733333333334)

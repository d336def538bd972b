-- Minutes of arc: a number as such an angle, and the way to degrees.
use Rattle.std.specs.Prelude.{Float}
use Rattle.double.specs.rules.Operations.{bits, ◌⊘◌}
use Rattle.quantity.specs.declared.Deg.{Deg}
use Rattle.quantity.specs.rules.Angle.{deg}
use Rattle.atmos.specs.declared.Arcmin.{Arcmin}

abbrev pub arcmin : Float → Arcmin
arcmin x = record { 0 = x }

-- 60.0
abbrev pub minutes_of_degree : Float
minutes_of_degree = bits 0x404e000000000000

-- the only way from minutes of arc to degrees
abbrev pub degrees_of : Arcmin → Deg
degrees_of x = deg (x.0 ⊘ minutes_of_degree)

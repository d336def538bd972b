-- The numbers of annual precession, each by its bits. A name spells the decimal, with a dot for the point.
use Rattle.std.specs.Prelude.{Float}
use Rattle.double.specs.rules.Operations.{bits}

abbrev pub n3·07496 : Float
n3·07496 = bits 0x40089984a0e410b6

abbrev pub n0·00186 : Float
n0·00186 = bits 0x3f5e7967caea747e

abbrev pub n1·33621 : Float
n1·33621 = bits 0x3ff5611dbca9691a

abbrev pub n0·00057 : Float
n0·00057 = bits 0x3f42ad81adea8976

-- The numbers of the mean obliquity, each by its bits. A name spells the decimal, with a dot for the point.
use Rattle.std.specs.Prelude.{Float}
use Rattle.double.specs.rules.Operations.{bits}

abbrev pub n84381·448 : Float
n84381·448 = bits 0x40f499d72b020c4a

abbrev pub n46·8150 : Float
n46·8150 = bits 0x40476851eb851eb8

abbrev pub n0·00059 : Float
n0·00059 = bits 0x3f4355475a31a4be

abbrev pub n0·001813 : Float
n0·001813 = bits 0x3f5db445ed4a1ad6

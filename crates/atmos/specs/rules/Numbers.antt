-- The numbers of refraction, each by its bits. A name spells the decimal, with a dot for the point.
use Rattle.std.specs.Prelude.{Float}
use Rattle.double.specs.rules.Operations.{bits}

abbrev pub n7·31 : Float
n7·31 = bits 0x401d3d70a3d70a3d

abbrev pub n4·4 : Float
n4·4 = bits 0x401199999999999a

abbrev pub n1·02 : Float
n1·02 = bits 0x3ff051eb851eb852

abbrev pub n10·3 : Float
n10·3 = bits 0x402499999999999a

abbrev pub n5·11 : Float
n5·11 = bits 0x401470a3d70a3d71

abbrev pub n89·8 : Float
n89·8 = bits 0x4056733333333333

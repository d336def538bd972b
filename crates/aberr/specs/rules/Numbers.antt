-- The numbers of aberration, each by its bits. A name spells the decimal, with a dot for the point.
use Rattle.std.specs.Prelude.{Float}
use Rattle.double.specs.rules.Operations.{bits}

abbrev pub n17314463350 : Float
n17314463350 = bits 0x42102016f9d80000

abbrev pub n20·4898 : Float
n20·4898 = bits 0x40347d63886594af

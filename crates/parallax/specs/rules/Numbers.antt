-- The number of parallax, each by its bits. A name spells the decimal, with a dot for the point.
use Rattle.std.specs.Prelude.{Float}
use Rattle.double.specs.rules.Operations.{bits}

abbrev pub n8·794 : Float
n8·794 = bits 0x402196872b020c4a

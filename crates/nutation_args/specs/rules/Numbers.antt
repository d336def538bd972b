-- The numbers of nutation, each by its bits. A name spells the decimal, with a dot for the point.
use Rattle.std.specs.Prelude.{Float}
use Rattle.double.specs.rules.Operations.{bits}

abbrev pub n134·96298 : Float
n134·96298 = bits 0x4060ded0bb6ed677

abbrev pub n477198·867398 : Float
n477198·867398 = bits 0x411d203b78372e6a

abbrev pub n0·0086972 : Float
n0·0086972 = bits 0x3f81cfd66c88bf57

abbrev pub n56250 : Float
n56250 = bits 0x40eb774000000000

abbrev pub n357·52772 : Float
n357·52772 = bits 0x407658718a86d71f

abbrev pub n35999·05034 : Float
n35999·05034 = bits 0x40e193e19c62a1b6

abbrev pub n0·0001603 : Float
n0·0001603 = bits 0x3f2502c683dd6fb2

abbrev pub n300000 : Float
n300000 = bits 0x41124f8000000000

abbrev pub n297·85036 : Float
n297·85036 = bits 0x40729d9b13165d3a

abbrev pub n445267·11148 : Float
n445267·11148 = bits 0x411b2d4c7227d029

abbrev pub n0·0019142 : Float
n0·0019142 = bits 0x3f5f5cbc9978e26a

abbrev pub n189474 : Float
n189474 = bits 0x4107211000000000

abbrev pub n93·27191 : Float
n93·27191 = bits 0x40575166f9335d25

abbrev pub n483202·017538 : Float
n483202·017538 = bits 0x411d7e0811f57b42

abbrev pub n0·0036825 : Float
n0·0036825 = bits 0x3f6e2ac322291fb4

abbrev pub n327270 : Float
n327270 = bits 0x4113f99800000000

abbrev pub n125·04452 : Float
n125·04452 = bits 0x405f42d96a6a0126

abbrev pub n1934·136261 : Float
n1934·136261 = bits 0x409e388b8800eae2

abbrev pub n0·0020708 : Float
n0·0020708 = bits 0x3f60f6c848d98da5

abbrev pub n450000 : Float
n450000 = bits 0x411b774000000000

abbrev pub n10 : Float
n10 = bits 0x4024000000000000

abbrev pub n0·0001 : Float
n0·0001 = bits 0x3f1a36e2eb1c432d

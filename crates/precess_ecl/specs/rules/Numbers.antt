-- The numbers of precession, each by its bits. A name spells the decimal, with a dot for the point, and m for a minus sign.
use Rattle.std.specs.Prelude.{Float}
use Rattle.double.specs.rules.Operations.{bits}

abbrev pub n0·000598 : Float
n0·000598 = bits 0x3f43986338b47c74

abbrev pub n47·0029 : Float
n47·0029 = bits 0x4047805f06f69446

abbrev pub n0·06603 : Float
n0·06603 = bits 0x3fb0e757928e0c9e

abbrev pub m0·03302 : Float
m0·03302 = bits 0xbfa0e7ff583a53b9

abbrev pub n0·00006 : Float
n0·00006 = bits 0x3f0f75104d551d69

abbrev pub n174·876384 : Float
n174·876384 = bits 0x4065dc0b5675579b

abbrev pub n3289·4789 : Float
n3289·4789 = bits 0x40a9b2f532617c1c

abbrev pub n0·60622 : Float
n0·60622 = bits 0x3fe366277c45cbbc

abbrev pub n869·8089 : Float
n869·8089 = bits 0x408b2e78a0902de0

abbrev pub n0·50491 : Float
n0·50491 = bits 0x3fe02839042d8c2a

abbrev pub n0·03536 : Float
n0·03536 = bits 0x3fa21ab4b72c5198

abbrev pub n0·000042 : Float
n0·000042 = bits 0x3f06052502eec7c9

abbrev pub n5029·0966 : Float
n5029·0966 = bits 0x40b3a518bac710cb

abbrev pub n2·22226 : Float
n2·22226 = bits 0x4001c7304039abf3

abbrev pub n1·11113 : Float
n1·11113 = bits 0x3ff1c7304039abf3

abbrev pub n0·000006 : Float
n0·000006 = bits 0x3ed92a737110e454

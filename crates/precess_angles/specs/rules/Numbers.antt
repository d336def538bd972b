-- The numbers of the angles, each by its bits. A name spells the decimal, with a dot for the point.
use Rattle.std.specs.Prelude.{Float}
use Rattle.double.specs.rules.Operations.{bits}

abbrev pub n2306·2181 : Float
n2306·2181 = bits 0x40a2046faacd9e84

abbrev pub n1·39656 : Float
n1·39656 = bits 0x3ff6584f4c6e6d9c

abbrev pub n0·000139 : Float
n0·000139 = bits 0x3f223810e8858ff7

abbrev pub n0·30188 : Float
n0·30188 = bits 0x3fd352007dd44135

abbrev pub n0·000344 : Float
n0·000344 = bits 0x3f368b5cbff47736

abbrev pub n0·017998 : Float
n0·017998 = bits 0x3f926e115592d98c

abbrev pub n1·09468 : Float
n1·09468 = bits 0x3ff183cf2cf95d4f

abbrev pub n0·000066 : Float
n0·000066 = bits 0x3f114d2f5dbb9cfa

abbrev pub n0·018203 : Float
n0·018203 = bits 0x3f92a3cea6c1a049

abbrev pub n0·000217 : Float
n0·000217 = bits 0x3f2c714fce746cb9

abbrev pub n2004·3109 : Float
n2004·3109 = bits 0x409f513e5c91d14e

abbrev pub n0·8533 : Float
n0·8533 = bits 0x3feb4e3bcd35a858

abbrev pub n0·42665 : Float
n0·42665 = bits 0x3fdb4e3bcd35a858

abbrev pub n0·041833 : Float
n0·041833 = bits 0x3fa56b228dc981bf

abbrev pub n2415020·3135 : Float
n2415020·3135 = bits 0x41426cd62820c49c

abbrev pub n36524·2199 : Float
n36524·2199 = bits 0x40e1d587096bb98c

abbrev pub n2304·25 : Float
n2304·25 = bits 0x40a2008000000000

abbrev pub n1·396 : Float
n1·396 = bits 0x3ff65604189374bc

abbrev pub n0·302 : Float
n0·302 = bits 0x3fd353f7ced91687

abbrev pub n0·018 : Float
n0·018 = bits 0x3f926e978d4fdf3b

abbrev pub n0·791 : Float
n0·791 = bits 0x3fe94fdf3b645a1d

abbrev pub n0·001 : Float
n0·001 = bits 0x3f50624dd2f1a9fc

abbrev pub n2004·682 : Float
n2004·682 = bits 0x409f52ba5e353f7d

abbrev pub n0·853 : Float
n0·853 = bits 0x3feb4bc6a7ef9db2

abbrev pub n0·426 : Float
n0·426 = bits 0x3fdb4395810624dd

abbrev pub n0·042 : Float
n0·042 = bits 0x3fa5810624dd2f1b

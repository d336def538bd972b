-- The numbers of the arguments, each by its bits. A name spells the decimal, with a dot for the point.
use Rattle.std.specs.Prelude.{Float}
use Rattle.double.specs.rules.Operations.{bits}

abbrev pub n3·1761467 : Float
n3·1761467 = bits 0x400968bf99de62f7

abbrev pub n1021·3285546 : Float
n1021·3285546 = bits 0x408feaa0e13bef9a

abbrev pub n1·7534703 : Float
n1·7534703 = bits 0x3ffc0e36df901df0

abbrev pub n628·3075849 : Float
n628·3075849 = bits 0x4083a275ef1271f3

abbrev pub n6·2034809 : Float
n6·2034809 = bits 0x4018d05d4c0b714d

abbrev pub n334·0612431 : Float
n334·0612431 = bits 0x4074e0fada0b79b1

abbrev pub n0·5995465 : Float
n0·5995465 = bits 0x3fe32f7c243dccea

abbrev pub n52·9690965 : Float
n52·9690965 = bits 0x404a7c0b5aa71583

abbrev pub n0·8740168 : Float
n0·8740168 = bits 0x3febf7f21484f243

abbrev pub n21·3299095 : Float
n21·3299095 = bits 0x40355474f2f123c4

abbrev pub n5·4812939 : Float
n5·4812939 = bits 0x4015ecd84ee10ea3

abbrev pub n7·4781599 : Float
n7·4781599 = bits 0x401de9a2bfb308d6

abbrev pub n5·3118863 : Float
n5·3118863 = bits 0x40153f5f1f4a4823

abbrev pub n3·8133036 : Float
n3·8133036 = bits 0x400e81a5515dc0a5

abbrev pub n3·8103444 : Float
n3·8103444 = bits 0x400e7b95d843f954

abbrev pub n8399·6847337 : Float
n8399·6847337 = bits 0x40c067d7a55a97fc

abbrev pub n5·1984667 : Float
n5·1984667 = bits 0x4014cb3adac76153

abbrev pub n7771·3771486 : Float
n7771·3771486 = bits 0x40be5b608ccf86bb

abbrev pub n2·3555559 : Float
n2·3555559 = bits 0x4002d82db11332e3

abbrev pub n8328·6914289 : Float
n8328·6914289 = bits 0x40c0445880be0081

abbrev pub n1·6279052 : Float
n1·6279052 = bits 0x3ffa0be652afd03d

abbrev pub n8433·4661601 : Float
n8433·4661601 = bits 0x40c078bbab22581a

-- The series of the arctangent, summed from its last entry down.
use Rattle.std.specs.Prelude.{List, [], ◌∷◌, Float}
use Rattle.double.specs.rules.Operations.{bits, ◌⊕◌, ◌⊗◌}
use Rattle.elementary.specs.rules.Series.{horner}

-- 1/n for n = 41, and for 39, 37, .. 3, minus for n mod 4 = 3
abbrev pub arctangent_last : Float
arctangent_last = bits 0x3f98f9c18f9c18fa

abbrev pub arctangent_entries : List Float
arctangent_entries =
    bits 0xbf9a41a41a41a41a ∷ bits 0x3f9bacf914c1bad0 ∷ bits 0xbf9d41d41d41d41d ∷ bits 0x3f9f07c1f07c1f08 ∷
    bits 0xbfa0842108421084 ∷ bits 0x3fa1a7b9611a7b96 ∷ bits 0xbfa2f684bda12f68 ∷ bits 0x3fa47ae147ae147b ∷
    bits 0xbfa642c8590b2164 ∷ bits 0x3fa8618618618618 ∷ bits 0xbfaaf286bca1af28 ∷ bits 0x3fae1e1e1e1e1e1e ∷
    bits 0xbfb1111111111111 ∷ bits 0x3fb3b13b13b13b14 ∷ bits 0xbfb745d1745d1746 ∷ bits 0x3fbc71c71c71c71c ∷
    bits 0xbfc2492492492492 ∷ bits 0x3fc999999999999a ∷ bits 0xbfd5555555555555 ∷ []

-- A(u)
abbrev pub arctangent_series : Float → Float
arctangent_series u = let w = u ⊗ u in u ⊕ (u ⊗ w) ⊗ horner w arctangent_last arctangent_entries

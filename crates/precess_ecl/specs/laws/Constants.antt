-- Each number of the rules is the decimal that its name spells, rounded once.
use Rattle.std.specs.Prelude.{refl, List, [], ◌∷◌, Float}
use Rattle.std.specs.Float.Ieee.{of_bits, round, neg}
use Rattle.double.specs.rules.Table.{Row, ◌is◌, Agrees, decimal}
use Rattle.precess_ecl.specs.rules.Numbers.{n0·000598, n47·0029, n0·06603, m0·03302, n0·00006, n174·876384, n3289·4789, n0·60622, n869·8089}
use Rattle.precess_ecl.specs.rules.Numbers.{n0·50491, n0·03536, n0·000042, n5029·0966, n2·22226, n1·11113, n0·000006}

abbrev rows : List (Row Float)
rows =
    (n0·000598 is decimal 598 6)
    ∷ (n47·0029 is decimal 470029 4)
    ∷ (n0·06603 is decimal 6603 5)
    ∷ (m0·03302 is neg (decimal 3302 5))
    ∷ (n0·00006 is decimal 6 5)
    ∷ (n174·876384 is decimal 174876384 6)
    ∷ (n3289·4789 is decimal 32894789 4)
    ∷ (n0·60622 is decimal 60622 5)
    ∷ (n869·8089 is decimal 8698089 4)
    ∷ (n0·50491 is decimal 50491 5)
    ∷ (n0·03536 is decimal 3536 5)
    ∷ (n0·000042 is decimal 42 6)
    ∷ (n5029·0966 is decimal 50290966 4)
    ∷ (n2·22226 is decimal 222226 5)
    ∷ (n1·11113 is decimal 111113 5)
    ∷ (n0·000006 is decimal 6 6)
    ∷ []

pub constants : Agrees rows
unfolding of_bits round neg
constants = refl

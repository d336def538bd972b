-- Each number of the rules is the decimal that its name spells, rounded once.
use Rattle.std.specs.Prelude.{refl, List, [], ◌∷◌, Float}
use Rattle.std.specs.Float.Ieee.{of_bits, round}
use Rattle.double.specs.rules.Table.{Row, ◌is◌, Agrees, decimal}
use Rattle.atmos.specs.rules.Arcminutes.{minutes_of_degree}
use Rattle.atmos.specs.rules.Numbers.{n7·31, n4·4, n1·02, n10·3, n5·11, n89·8}

abbrev rows : List (Row Float)
rows =
    (minutes_of_degree is decimal 60 0)
    ∷ (n7·31 is decimal 731 2)
    ∷ (n4·4 is decimal 44 1)
    ∷ (n1·02 is decimal 102 2)
    ∷ (n10·3 is decimal 103 1)
    ∷ (n5·11 is decimal 511 2)
    ∷ (n89·8 is decimal 898 1)
    ∷ []

pub constants : Agrees rows
unfolding of_bits round
constants = refl

-- Each number of the rules is the decimal that its name spells, rounded once.
use Rattle.std.specs.Prelude.{refl, List, [], ◌∷◌, Float}
use Rattle.std.specs.Float.Ieee.{of_bits, round}
use Rattle.double.specs.rules.Table.{Row, ◌is◌, Agrees, decimal}
use Rattle.chain.specs.rules.Numbers.{n84381·448, n46·8150, n0·00059, n0·001813}

abbrev rows : List (Row Float)
rows =
    (n84381·448 is decimal 84381448 3)
    ∷ (n46·8150 is decimal 468150 4)
    ∷ (n0·00059 is decimal 59 5)
    ∷ (n0·001813 is decimal 1813 6)
    ∷ []

pub constants : Agrees rows
unfolding of_bits round
constants = refl

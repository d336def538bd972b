-- Each number of the rules is the decimal that its name spells, rounded once.
use Rattle.std.specs.Prelude.{refl, List, [], ◌∷◌, Float}
use Rattle.std.specs.Float.Ieee.{of_bits, round}
use Rattle.double.specs.rules.Table.{Row, ◌is◌, Agrees, decimal}
use Rattle.sidereal.specs.rules.Numbers.{n280·46061837, n360·98564736629, n0·000387933, n38710000}

abbrev rows : List (Row Float)
rows =
    (n280·46061837 is decimal 28046061837 8)
    ∷ (n360·98564736629 is decimal 36098564736629 11)
    ∷ (n0·000387933 is decimal 387933 9)
    ∷ (n38710000 is decimal 38710000 0)
    ∷ []

pub constants : Agrees rows
unfolding of_bits round
constants = refl

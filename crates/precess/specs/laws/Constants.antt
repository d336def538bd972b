-- Each number of the rules is the decimal that its name spells, rounded once.
use Rattle.std.specs.Prelude.{refl, List, [], ◌∷◌, Float}
use Rattle.std.specs.Float.Ieee.{of_bits, round}
use Rattle.double.specs.rules.Table.{Row, ◌is◌, Agrees, decimal}
use Rattle.precess.specs.rules.Numbers.{n3·07496, n0·00186, n1·33621, n0·00057}

abbrev rows : List (Row Float)
rows =
    (n3·07496 is decimal 307496 5)
    ∷ (n0·00186 is decimal 186 5)
    ∷ (n1·33621 is decimal 133621 5)
    ∷ (n0·00057 is decimal 57 5)
    ∷ []

pub constants : Agrees rows
unfolding of_bits round
constants = refl

-- Each number of the rules is the decimal that its name spells, rounded once.
use Rattle.std.specs.Prelude.{refl, List, [], ◌∷◌, Float}
use Rattle.std.specs.Float.Ieee.{of_bits, round}
use Rattle.double.specs.rules.Table.{Row, ◌is◌, Agrees, decimal}
use Rattle.aberr.specs.rules.Numbers.{n17314463350, n20·4898}

abbrev rows : List (Row Float)
rows =
    (n17314463350 is decimal 17314463350 0)
    ∷ (n20·4898 is decimal 204898 4)
    ∷ []

pub constants : Agrees rows
unfolding of_bits round
constants = refl

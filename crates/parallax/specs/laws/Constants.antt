-- Each number of the rules is the decimal that its name spells, rounded once.
use Rattle.std.specs.Prelude.{refl, List, [], ◌∷◌, Float}
use Rattle.std.specs.Float.Ieee.{of_bits, round}
use Rattle.double.specs.rules.Table.{Row, ◌is◌, Agrees, decimal}
use Rattle.parallax.specs.rules.Numbers.{n8·794}

abbrev rows : List (Row Float)
rows =
    (n8·794 is decimal 8794 3)
    ∷ []

pub constants : Agrees rows
unfolding of_bits round
constants = refl

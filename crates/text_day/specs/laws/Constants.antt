-- The number of the rules is the decimal beside it, rounded once.
use Rattle.std.specs.Prelude.{refl, List, [], ◌∷◌, Float}
use Rattle.std.specs.Float.Ieee.{of_bits, round}
use Rattle.double.specs.rules.Table.{Row, ◌is◌, Agrees, decimal}
use Rattle.text_day.specs.rules.Day.{j2000}

abbrev rows : List (Row Float)
rows = (j2000 is decimal 2451545 0) ∷ []

pub constants : Agrees rows
unfolding of_bits round
constants = refl

-- The number of the rules is the decimal beside it, rounded once.
use Rattle.std.specs.Prelude.{List, [], ◌∷◌, refl, Float}
use Rattle.std.specs.Float.Ieee.{of_bits, round}
use Rattle.double.specs.rules.Table.{Row, ◌is◌, Agrees, decimal}
use Rattle.calendar.specs.rules.Julian.{day_in_millis}

abbrev rows : List (Row Float)
rows = (day_in_millis is decimal 86400000 0) ∷ []

pub constants : Agrees rows
unfolding of_bits round
constants = refl

-- Each constant of the rules is the decimal that the paper gives, rounded once.
use Rattle.std.specs.Prelude.{refl, List, [], ◌∷◌, Float}
use Rattle.std.specs.Float.Ieee.{of_bits, round}
use Rattle.double.specs.rules.Table.{Row, ◌is◌, Agrees, decimal}
use Rattle.helpers_earth.specs.rules.Earth.{ratio, radius}

abbrev rows : List (Row Float)
rows = (ratio is decimal 99664719 8) ∷ (radius is decimal 6378140 0) ∷ []

pub constants : Agrees rows
unfolding of_bits round
constants = refl

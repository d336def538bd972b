-- Each constant of the notions is its decimal or its quotient, rounded once.
use Rattle.std.specs.Prelude.{refl, List, [], ◌∷◌, Float}
use Rattle.std.specs.Float.Ieee.{of_bits, round, div}
use Rattle.double.specs.rules.Operations.{◌⊘◌}
use Rattle.double.specs.rules.Table.{Row, ◌is◌, Agrees, decimal}
use Rattle.heading_mean.specs.notions.Near.{farthest_offset}
use Rattle.heading_mean.specs.notions.Far.{under_half, over_half}

abbrev rows : List (Row Float)
rows =
    (farthest_offset is decimal 1000 0 ⊘ decimal 3600 0)
    ∷ (under_half is decimal 179 0)
    ∷ (over_half is decimal 181 0)
    ∷ []

pub constants : Agrees rows
unfolding of_bits round div
constants = refl

-- Each number of the rules is the decimal that its name spells, rounded once, and the unit the quotient of two.
use Rattle.std.specs.Prelude.{refl, List, [], ◌∷◌, Float}
use Rattle.std.specs.Float.Ieee.{of_bits, round, div}
use Rattle.double.specs.rules.Operations.{◌⊘◌}
use Rattle.double.specs.rules.Table.{Row, ◌is◌, Agrees, decimal}
use Rattle.nutation_args.specs.rules.Numbers.{n134·96298, n477198·867398, n0·0086972, n56250, n357·52772, n35999·05034, n0·0001603, n300000}
use Rattle.nutation_args.specs.rules.Numbers.{n297·85036, n445267·11148, n0·0019142, n189474, n93·27191, n483202·017538, n0·0036825, n327270}
use Rattle.nutation_args.specs.rules.Numbers.{n125·04452, n1934·136261, n0·0020708, n450000, n10, n0·0001}
use Rattle.nutation_args.specs.rules.Sum.{unit}

abbrev rows : List (Row Float)
rows =
    (n134·96298 is decimal 13496298 5)
    ∷ (n477198·867398 is decimal 477198867398 6)
    ∷ (n0·0086972 is decimal 86972 7)
    ∷ (n56250 is decimal 56250 0)
    ∷ (n357·52772 is decimal 35752772 5)
    ∷ (n35999·05034 is decimal 3599905034 5)
    ∷ (n0·0001603 is decimal 1603 7)
    ∷ (n300000 is decimal 300000 0)
    ∷ (n297·85036 is decimal 29785036 5)
    ∷ (n445267·11148 is decimal 44526711148 5)
    ∷ (n0·0019142 is decimal 19142 7)
    ∷ (n189474 is decimal 189474 0)
    ∷ (n93·27191 is decimal 9327191 5)
    ∷ (n483202·017538 is decimal 483202017538 6)
    ∷ (n0·0036825 is decimal 36825 7)
    ∷ (n327270 is decimal 327270 0)
    ∷ (n125·04452 is decimal 12504452 5)
    ∷ (n1934·136261 is decimal 1934136261 6)
    ∷ (n0·0020708 is decimal 20708 7)
    ∷ (n450000 is decimal 450000 0)
    ∷ (n10 is decimal 10 0)
    ∷ (n0·0001 is decimal 1 4)
    ∷ (unit is decimal 1 4 ⊘ decimal 3600 0)
    ∷ []

pub constants : Agrees rows
unfolding of_bits round div
constants = refl

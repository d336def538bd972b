-- Each number of the rules is the decimal that its name spells, rounded once.
use Rattle.std.specs.Prelude.{refl, List, [], ◌∷◌, Float}
use Rattle.std.specs.Float.Ieee.{of_bits, round}
use Rattle.double.specs.rules.Table.{Row, ◌is◌, Agrees, decimal}
use Rattle.precess_angles.specs.rules.Numbers.{n2306·2181, n1·39656, n0·000139, n0·30188, n0·000344, n0·017998, n1·09468, n0·000066, n0·018203}
use Rattle.precess_angles.specs.rules.Numbers.{n0·000217, n2004·3109, n0·8533, n0·42665, n0·041833, n2415020·3135, n36524·2199, n2304·25}
use Rattle.precess_angles.specs.rules.Numbers.{n1·396, n0·302, n0·018, n0·791, n0·001, n2004·682, n0·853, n0·426, n0·042}

abbrev rows : List (Row Float)
rows =
    (n2306·2181 is decimal 23062181 4)
    ∷ (n1·39656 is decimal 139656 5)
    ∷ (n0·000139 is decimal 139 6)
    ∷ (n0·30188 is decimal 30188 5)
    ∷ (n0·000344 is decimal 344 6)
    ∷ (n0·017998 is decimal 17998 6)
    ∷ (n1·09468 is decimal 109468 5)
    ∷ (n0·000066 is decimal 66 6)
    ∷ (n0·018203 is decimal 18203 6)
    ∷ (n0·000217 is decimal 217 6)
    ∷ (n2004·3109 is decimal 20043109 4)
    ∷ (n0·8533 is decimal 8533 4)
    ∷ (n0·42665 is decimal 42665 5)
    ∷ (n0·041833 is decimal 41833 6)
    ∷ (n2415020·3135 is decimal 24150203135 4)
    ∷ (n36524·2199 is decimal 365242199 4)
    ∷ (n2304·25 is decimal 230425 2)
    ∷ (n1·396 is decimal 1396 3)
    ∷ (n0·302 is decimal 302 3)
    ∷ (n0·018 is decimal 18 3)
    ∷ (n0·791 is decimal 791 3)
    ∷ (n0·001 is decimal 1 3)
    ∷ (n2004·682 is decimal 2004682 3)
    ∷ (n0·853 is decimal 853 3)
    ∷ (n0·426 is decimal 426 3)
    ∷ (n0·042 is decimal 42 3)
    ∷ []

pub constants : Agrees rows
unfolding of_bits round
constants = refl

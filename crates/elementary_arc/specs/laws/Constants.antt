-- Each constant of the rules is the decimal, or each entry of a series the fraction, that the paper gives, rounded once.
use Rattle.std.specs.Prelude.{refl, List, [], ◌∷◌, map, Float}
use Rattle.std.specs.Float.Ieee.{of_bits, round}
use Rattle.double.specs.rules.Table.{Row, ◌is◌, Agrees, decimal}
use Rattle.elementary.specs.notions.Series.{entry}
use Rattle.elementary_arc.specs.rules.Series.{arctangent_last, arctangent_entries}
use Rattle.elementary_arc.specs.rules.Arctangent.{near}

abbrev rows : List (Row (List Float))
rows =
    (near ∷ [] is decimal 4142 4 ∷ [])
    ∷ (arctangent_last ∷ arctangent_entries
    is map (λ n. entry 3 n n) (41 ∷ 39 ∷ 37 ∷ 35 ∷ 33 ∷ 31 ∷ 29 ∷ 27 ∷ 25 ∷ 23 ∷ 21 ∷ 19 ∷ 17 ∷ 15 ∷ 13 ∷ 11 ∷ 9 ∷ 7 ∷ 5 ∷ 3 ∷ []))
    ∷ []

pub constants : Agrees rows
unfolding of_bits round
constants = refl

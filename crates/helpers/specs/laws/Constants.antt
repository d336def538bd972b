-- Each constant of the rules is the decimal or the quotient that the paper gives, rounded once.
use Rattle.std.specs.Prelude.{refl, List, [], ◌∷◌, Float}
use Rattle.std.specs.Float.Ieee.{of_bits, round, add, div}
use Rattle.double.specs.rules.Operations.{◌⊕◌, ◌⊘◌}
use Rattle.double.specs.rules.Table.{Row, ◌is◌, Agrees, decimal}
use Rattle.quantity.specs.rules.Angle.{PI}
use Rattle.helpers.specs.rules.Time.{days_of_century}
use Rattle.helpers.specs.rules.Angle.{seconds_of_degree, degrees_of_hour, degree, turn_in_degrees, turn_in_radians}
use Rattle.helpers.specs.rules.Circle.{half_turn}

abbrev rows : List (Row Float)
rows =
    (days_of_century is decimal 36525 0)
    ∷ (seconds_of_degree is decimal 3600 0)
    ∷ (degrees_of_hour is decimal 15 0)
    ∷ (degree is PI ⊘ decimal 180 0)
    ∷ (turn_in_degrees is decimal 360 0)
    ∷ (turn_in_radians is PI ⊕ PI)
    ∷ (half_turn is decimal 180 0)
    ∷ []

pub constants : Agrees rows
unfolding of_bits round add div
constants = refl

-- Each constant of the rules is the decimal that the crate gives, rounded once.
use Rattle.std.specs.Prelude.{refl, List, [], ◌∷◌, Float}
use Rattle.std.specs.Float.Ieee.{of_bits, round}
use Rattle.double.specs.rules.Table.{Row, ◌is◌, Agrees, decimal}
use Rattle.coords_gal.specs.rules.Galactic.{south_cel_pole_long, gal_pole_asc, gal_pole_dec, cel_pole_long, south_gal_pole_asc}

abbrev rows : List (Row Float)
rows =
    (south_cel_pole_long.0 is decimal 303 0)
    ∷ (gal_pole_asc.0 is decimal 19225 2)
    ∷ (gal_pole_dec.0 is decimal 274 1)
    ∷ (cel_pole_long.0 is decimal 123 0)
    ∷ (south_gal_pole_asc.0 is decimal 1225 2)
    ∷ []

pub constants : Agrees rows
unfolding of_bits round
constants = refl

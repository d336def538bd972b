-- The year's constant is the decimal that the paper gives.
use Rattle.std.specs.Prelude.{◌≡◌, refl}
use Rattle.std.specs.Float.Ieee.{of_bits, round}
use Rattle.double.specs.rules.Table.{decimal}
use Rattle.star_place.specs.rules.Place.{days_of_year}

pub days_of_year_lem : days_of_year ≡ decimal 36525 2
unfolding of_bits round
days_of_year_lem = refl

-- The constants of the rules are their decimals, rounded once.
use Rattle.std.specs.Prelude.{◌≡◌, refl}
use Rattle.std.specs.Float.Ieee.{of_bits, round}
use Rattle.double.specs.rules.Table.{decimal}
use Rattle.text_row.specs.rules.Place.{milliseconds_of_degree, hundredths_of_degree}

pub milliseconds_of_degree_lem : milliseconds_of_degree ≡ decimal 240000 0
unfolding of_bits round
milliseconds_of_degree_lem = refl

pub hundredths_of_degree_lem : hundredths_of_degree ≡ decimal 360000 0
unfolding of_bits round
hundredths_of_degree_lem = refl

-- The constants of the rules are what the paper gives, rounded once.
use Rattle.std.specs.Prelude.{◌≡◌, refl}
use Rattle.std.specs.Float.Ieee.{of_bits, round, div}
use Rattle.double.specs.rules.Operations.{◌⊘◌}
use Rattle.double.specs.rules.Table.{decimal}
use Rattle.quantity.specs.rules.Angle.{PI}
use Rattle.units.specs.rules.Degrees.{degrees_of_radian, milliarcseconds_of_degree}

pub degrees_of_radian_lem : degrees_of_radian ≡ decimal 180 0 ⊘ PI
unfolding of_bits round div
degrees_of_radian_lem = refl

pub milliarcseconds_of_degree_lem : milliarcseconds_of_degree ≡ decimal 3600000 0
unfolding of_bits round
milliarcseconds_of_degree_lem = refl

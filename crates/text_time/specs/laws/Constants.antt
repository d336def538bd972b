-- The constant of the rules is its decimal, rounded once.
use Rattle.std.specs.Prelude.{◌≡◌, refl}
use Rattle.std.specs.Float.Ieee.{of_bits, round}
use Rattle.double.specs.rules.Table.{decimal}
use Rattle.text_time.specs.rules.Time.{seconds_of_day}

pub seconds_of_day_lem : seconds_of_day ≡ decimal 86400 0
unfolding of_bits round
seconds_of_day_lem = refl

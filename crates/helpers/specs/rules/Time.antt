-- The century of a day.
use Rattle.std.specs.Prelude.{Float}
use Rattle.double.specs.rules.Operations.{bits, ◌⊖◌, ◌⊘◌}
use Rattle.quantity.specs.rules.Answer.{Answer, answered, unless}
use Rattle.quantity.specs.rules.Refusal.{epoch, day_refusal}

-- 36525.0
abbrev pub days_of_century : Float
days_of_century = bits 0x40e1d5a000000000

-- (JD − 2451545.0)/36525.0
abbrev pub century_of : Float → Float
century_of day = (day ⊖ epoch) ⊘ days_of_century

abbrev pub julian_cent_rule : Float → Answer Float
julian_cent_rule day = unless (day_refusal day) (answered (century_of day))

-- Nutation in longitude and in obliquity on a day (Meeus, chapter 22).
use Rattle.std.specs.Prelude.{Float}
use Rattle.quantity.specs.rules.Answer.{Answer, answered, Pair, pair, unless}
use Rattle.quantity.specs.rules.Refusal.{day_refusal}
use Rattle.nutation_table.specs.rules.Day.{nutation_of}

unfoldable pub nutation_rule : Float → Answer Pair
nutation_rule day = unless (day_refusal day) (answered (pair (nutation_of day).long.0 (nutation_of day).oblq.0))

-- The two days: their span in centuries, and the refusals of a place with them.
use Rattle.std.specs.Prelude.{ℕ, Float}
use Rattle.double.specs.rules.Operations.{◌⊖◌, ◌⊘◌}
use Rattle.quantity.specs.declared.Rad.{Rad}
use Rattle.quantity.specs.rules.Refusal.{lower, day_refusal, angle_refusal, latitude_refusal}
use Rattle.helpers.specs.rules.Time.{days_of_century}

-- (JD2 − JD1)/36525.0
abbrev pub span_of : Float → Float → Float
span_of day1 day2 = (day2 ⊖ day1) ⊘ days_of_century

unfoldable pub days_refusal : Float → Float → ℕ
days_refusal day1 day2 = lower (day_refusal day1) (day_refusal day2)

-- a longitude, a latitude and two days
abbrev pub place_refusal : Rad → Rad → Float → Float → ℕ
place_refusal long lat day1 day2 = lower (lower (angle_refusal long) (latitude_refusal lat)) (days_refusal day1 day2)

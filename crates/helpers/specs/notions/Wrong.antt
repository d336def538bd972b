-- Wrong variants of the helpers.
use Rattle.std.specs.Prelude.{Float}
use Rattle.double.specs.rules.Operations.{bits, zero, ◌⊖◌, ◌⊗◌, ◌⊘◌}
use Rattle.quantity.specs.declared.Deg.{Deg}
use Rattle.quantity.specs.declared.Rad.{Rad}
use Rattle.quantity.specs.rules.Angle.{deg, rad, PI}
use Rattle.quantity.specs.rules.Answer.{Answer, answered, unless}
use Rattle.quantity.specs.rules.Refusal.{epoch, number_refusal, day_refusal}
use Rattle.helpers.specs.rules.Time.{century_of}
use Rattle.helpers.specs.rules.Angle.{seconds_of_degree, degrees_of_hour, hour_arc, radians_of, remainder, limited, turn_in_degrees}

-- ---- time

-- of 36524.2199 days
abbrev pub another_century : Float → Answer Float
another_century day = unless (day_refusal day) (answered ((day ⊖ epoch) ⊘ bits 0x40e1d587096bb98c))

-- no day refused
abbrev pub century_of_any_day : Float → Answer Float
century_of_any_day day = answered (century_of day)

-- ---- degrees, radians and seconds

abbrev pub arc_is_time : Float → Answer Deg
arc_is_time s = unless (number_refusal s) (answered (deg (hour_arc s)))

-- (15·s)/3600
abbrev pub time_regrouped : Float → Answer Deg
time_regrouped s = unless (number_refusal s) (answered (deg (degrees_of_hour ⊗ s ⊘ seconds_of_degree)))

abbrev pub radians_of_nothing : Deg → Answer Rad
radians_of_nothing x = unless (number_refusal x.0) (answered (radians_of (deg zero)))

-- ---- one turn

-- degrees folded in another way
abbrev folded : (Float → Float) → Deg → Answer Deg
folded fold x = unless (number_refusal x.0) (answered (deg (fold x.0)))

-- of 400 degrees
abbrev pub another_turn : Deg → Answer Deg
another_turn = folded (λ (x : Float). limited x (bits 0x4079000000000000))

-- below zero
abbrev pub remainder_not_lifted : Deg → Answer Deg
remainder_not_lifted = folded (λ (x : Float). remainder x turn_in_degrees)

abbrev pub half_a_turn : Rad → Answer Rad
half_a_turn x = unless (number_refusal x.0) (answered (rad (limited x.0 PI)))

-- Times by the clock: a fraction of the sidereal day since 0h over the sidereal days in a day by the clock (Meeus, chapter 15).
use Rattle.std.specs.Prelude.{ℕ, Float, Result, Ok, Err}
use Rattle.double.specs.rules.Operations.{bits, one, ◌⊕◌, ◌⊘◌}
use Rattle.quantity.specs.rules.Answer.{Answer, answered, refused, Triple, triple, with}

-- 1.00273790935
abbrev pub sidereal_days : Float
sidereal_days = bits 0x3ff00b36e7f1e1f2

abbrev pub clock_of : Float → Float
clock_of fraction = fraction ⊘ sidereal_days

abbrev pub clock_three : Triple → Triple
clock_three (triple rise culmination set) = triple (clock_of rise) (clock_of culmination) (clock_of set)

abbrev pub by_clock : Answer Triple → Answer Triple
by_clock = with clock_three

-- a plan in code, where it is refused by any number
abbrev pub shown_plan : Result (Float × Float × Float) ℕ → Answer Triple
shown_plan (Ok (rise, culmination, set)) = answered (triple rise culmination set)
shown_plan (Err n) = refused n

-- the culmination a sidereal day after the one at a clock's time; it is on the same day where this is below 1
abbrev pub again_of : Float → Float
again_of culmination = culmination ⊕ (one ⊘ sidereal_days)

-- of a plan by the clock; 1 where there is none
abbrev pub again_in : Answer Triple → Float
again_in (answered (triple rise culmination set)) = again_of culmination
again_in (refused n) = one

-- Degrees, radians and seconds; folding into one turn.
use Rattle.std.specs.Prelude.{cond, Float}
use Rattle.std.specs.Float.{binary64}
use Rattle.std.specs.Float.Ieee.{rem, lt}
use Rattle.double.specs.rules.Operations.{bits, zero, ◌⊕◌, ◌⊗◌, ◌⊘◌}
use Rattle.quantity.specs.declared.Deg.{Deg}
use Rattle.quantity.specs.declared.Rad.{Rad}
use Rattle.quantity.specs.rules.Angle.{deg, rad}
use Rattle.quantity.specs.rules.Answer.{Answer, answered, unless}
use Rattle.quantity.specs.rules.Refusal.{number_refusal}

-- 3600.0
abbrev pub seconds_of_degree : Float
seconds_of_degree = bits 0x40ac200000000000

-- 15.0
abbrev pub degrees_of_hour : Float
degrees_of_hour = bits 0x402e000000000000

-- s/3600
abbrev pub arc : Float → Float
arc s = s ⊘ seconds_of_degree

-- 15·(s/3600)
abbrev pub hour_arc : Float → Float
hour_arc s = degrees_of_hour ⊗ arc s

abbrev pub deg_frm_dms_rule : Float → Answer Deg
deg_frm_dms_rule s = unless (number_refusal s) (answered (deg (arc s)))

abbrev pub deg_frm_hms_rule : Float → Answer Deg
deg_frm_hms_rule s = unless (number_refusal s) (answered (deg (hour_arc s)))

-- PI/180
abbrev pub degree : Float
degree = bits 0x3f91df46a2529d39

-- the only way from degrees to radians
abbrev pub radians_of : Deg → Rad
radians_of x = rad (x.0 ⊗ degree)

abbrev pub to_radians_rule : Deg → Answer Rad
to_radians_rule x = unless (number_refusal x.0) (answered (radians_of x))

-- the exact remainder, with x's sign
abbrev pub remainder : Float → Float → Float
remainder x full = rem binary64 x full

-- plus a full turn where it is below zero
unfoldable pub limited : Float → Float → Float
limited x full = cond (lt (remainder x full) zero) (remainder x full ⊕ full) (remainder x full)

-- 360.0
abbrev pub turn_in_degrees : Float
turn_in_degrees = bits 0x4076800000000000

-- 2·PI
abbrev pub turn_in_radians : Float
turn_in_radians = bits 0x401921fb54442d18

abbrev pub within360 : Deg → Deg
within360 x = deg (limited x.0 turn_in_degrees)

abbrev pub within_two_PI : Rad → Rad
within_two_PI x = rad (limited x.0 turn_in_radians)

abbrev pub limit_to_360_rule : Deg → Answer Deg
limit_to_360_rule x = unless (number_refusal x.0) (answered (within360 x))

abbrev pub limit_to_two_PI_rule : Rad → Answer Rad
limit_to_two_PI_rule x = unless (number_refusal x.0) (answered (within_two_PI x))

-- An orbit without inclination, from the epoch to the epoch, has no new one either: 6, at every argument of perihelion and every node
-- that is not refused.
use Rattle.std.specs.Prelude.{◌≡◌, refl, Bool, true, false}
use Rattle.double.specs.rules.Sign.{negated_if}
use Rattle.double.specs.rules.Operations.{zero}
use Rattle.quantity.specs.declared.Rad.{Rad}
use Rattle.quantity.specs.rules.Angle.{rad}
use Rattle.quantity.specs.rules.Answer.{refused}
use Rattle.quantity.specs.rules.Refusal.{epoch, angle_refusal}
use Rattle.precess_angles.specs.rules.Days.{days_refusal}
use Rattle.precess_ecl.specs.rules.Ecliptic.{ecl_precession_of}
use Rattle.precess_ecl.specs.rules.Orbit.{orbit_in, precess_orb_elements_rule}
use Rattle.precess_ecl.specs.notions.Computed.{computed}

-- a zero of either sign
abbrev flat : Bool → Rad
flat minus = rad (negated_if minus zero)

flat_accepted : (minus : Bool) → angle_refusal (flat minus) ≡ 0
unfolding computed
flat_accepted true = refl
flat_accepted false = refl

days_accepted : days_refusal epoch epoch ≡ 0
unfolding computed
days_accepted = refl

flat_six : (minus : Bool) (perih node : Rad) → orbit_in (flat minus) perih node (ecl_precession_of epoch epoch) ≡ refused 6
unfolding computed
flat_six true perih node = refl
flat_six false perih node = refl

pub no_inclination_six : (minus : Bool) (perih node : Rad) → angle_refusal perih ≡ 0 → angle_refusal node ≡ 0
    → precess_orb_elements_rule (flat minus) perih node epoch epoch ≡ refused 6
no_inclination_six minus perih node P O = rw (flat_accepted minus, P, O, days_accepted) (flat_six minus perih node)

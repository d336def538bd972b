-- Rise, culmination and set as fractions of the sidereal day since 0h.
use Rattle.std.specs.Prelude.{ℕ, Float}
use Rattle.double.specs.rules.Operations.{one, ◌⊕◌, ◌⊖◌, ◌⊘◌}
use Rattle.quantity.specs.declared.Rad.{Rad}
use Rattle.quantity.specs.declared.EqPoint.{EqPoint}
use Rattle.quantity.specs.declared.GeographPoint.{GeographPoint}
use Rattle.quantity.specs.rules.Angle.{rad}
use Rattle.quantity.specs.rules.Answer.{Answer, answered, Triple, triple, unless, then}
use Rattle.quantity.specs.rules.Refusal.{lower, angle_refusal, latitude_refusal, steep_refusal}
use Rattle.helpers.specs.rules.Angle.{limited, turn_in_radians}
use Rattle.transit.specs.rules.Arc.{arc_cosine, arc_in}

-- the exact remainder by 1, plus 1 where it is below zero
abbrev pub within_a_day : Float → Float
within_a_day x = limited x one

-- (right ascension + longitude − sidereal time)/(2·PI), not yet folded
abbrev pub culmination_of : Rad → Rad → Rad → Float
culmination_of asc sidereal long = ((asc.0 ⊕ long.0) ⊖ sidereal.0) ⊘ turn_in_radians

-- rise and set are the culmination less and plus arc/(2·PI); each is folded
unfoldable pub fractions : Float → Rad → Answer Triple
fractions culmination arc =
    let part = arc.0 ⊘ turn_in_radians in
    answered (triple (within_a_day (culmination ⊖ part)) (within_a_day culmination) (within_a_day (culmination ⊕ part)))

unfoldable pub rise_culm_set_in : EqPoint → Rad → GeographPoint → Rad → Answer Triple
rise_culm_set_in p sidereal site alt =
    then (arc_in (arc_cosine (rad p.dec) (rad site.lat) alt))
    (λ (arc : Rad). fractions (culmination_of (rad p.asc) sidereal (rad site.long)) arc)

-- of what belongs to the observer and his night: 1; 3; 4 for his latitude
unfoldable pub observer_refusal : Rad → GeographPoint → Rad → ℕ
observer_refusal sidereal site alt =
    lower (lower (angle_refusal (rad site.long)) (steep_refusal (rad site.lat)))
    (lower (angle_refusal sidereal) (latitude_refusal alt))

-- of all arguments: 4 for the declination too
unfoldable pub rise_culm_set_refusal : EqPoint → Rad → GeographPoint → Rad → ℕ
rise_culm_set_refusal p sidereal site alt =
    lower (lower (angle_refusal (rad p.asc)) (steep_refusal (rad p.dec))) (observer_refusal sidereal site alt)

abbrev pub rise_culm_set_rule : EqPoint → Rad → GeographPoint → Rad → Answer Triple
rise_culm_set_rule p sidereal site alt =
    unless (rise_culm_set_refusal p sidereal site alt) (rise_culm_set_in p sidereal site alt)

-- Wrong variants of nutation.
use Rattle.std.specs.Prelude.{Float}
use Rattle.quantity.specs.declared.Rad.{Rad}
use Rattle.quantity.specs.declared.EqPoint.{EqPoint}
use Rattle.quantity.specs.rules.Angle.{rad}
use Rattle.quantity.specs.rules.Answer.{Answer, answered, Pair, pair, unless}
use Rattle.quantity.specs.rules.Refusal.{lower, angle_refusal, latitude_refusal}
use Rattle.nutation_table.specs.rules.Day.{nutation_of}
use Rattle.nutation.specs.rules.Point.{nutation_in_eq_coords_in}

-- the day not tested
abbrev pub any_day_answered : Float → Answer Pair
any_day_answered day = answered (pair (nutation_of day).long.0 (nutation_of day).oblq.0)

-- tested as a latitude only
abbrev pub declination_not_steep : EqPoint → Rad → Rad → Rad → Answer Pair
declination_not_steep p long oblq tru =
    unless
    (lower (lower (angle_refusal (rad p.asc)) (latitude_refusal (rad p.dec)))
    (lower (angle_refusal long) (lower (angle_refusal oblq) (angle_refusal tru))))
    (answered (pair (nutation_in_eq_coords_in p long oblq tru).asc.0 (nutation_in_eq_coords_in p long oblq tru).dec.0))

-- Wrong variants of the chain and of its parts.
use Rattle.std.specs.Prelude.{ℕ, Float}
use Rattle.double.specs.rules.Operations.{◌⊕◌, ◌⊖◌, ◌⊗◌}
use Rattle.quantity.specs.declared.Deg.{Deg}
use Rattle.quantity.specs.declared.Rad.{Rad}
use Rattle.quantity.specs.declared.Refusal.{Refusal}
use Rattle.quantity.specs.declared.EqPoint.{EqPoint}
use Rattle.quantity.specs.declared.Shift.{Shift}
use Rattle.quantity.specs.rules.Angle.{deg, rad}
use Rattle.quantity.specs.rules.Answer.{Answer, answered, Pair, first, second, unless, then}
use Rattle.quantity.specs.rules.Refusal.{lower, epoch, angle_refusal, steep_refusal}
use Rattle.edition.specs.declared.Edition.{Edition}
use Rattle.elementary.specs.rules.Direction.{direction_of}
use Rattle.helpers.specs.rules.Angle.{arc}
use Rattle.precess_angles.specs.rules.Days.{place_refusal}
use Rattle.precess_angles.specs.rules.Equatorial.{eq_precession_of}
use Rattle.precess.specs.rules.Equatorial.{precess_eq_coords_rule}
use Rattle.nutation_table.specs.rules.Day.{nutation_of}
use Rattle.nutation.specs.rules.Day.{nutation_rule}
use Rattle.nutation.specs.rules.Point.{nutation_in_eq_coords_rule}
use Rattle.aberr_table.specs.rules.Velocity.{velocity_of}
use Rattle.aberr.specs.rules.Star.{stell_aberr_in_eq_coords_rule}
use Rattle.chain.specs.declared.Night.{Night}
use Rattle.chain.specs.rules.Numbers.{n84381·448, n46·8150, n0·00059, n0·001813}
use Rattle.chain.specs.rules.Obliquity.{mean_obliquity_of, true_obliquity}
use Rattle.chain.specs.rules.Chain.{point, sum, point_refusal}
use Rattle.chain.specs.rules.Night.{night_from, night_of, moved_under, pair_of, place_under}

-- that of 2451545.0
abbrev pub obliquity_of_one_day : Float → Rad
obliquity_of_one_day day = mean_obliquity_of epoch

-- the last term added, where the paper takes it away
abbrev pub last_term_added : Float → Deg
last_term_added c = deg (arc n84381·448 ⊖ c ⊗ (arc n46·8150 ⊕ c ⊗ (arc n0·00059 ⊕ c ⊗ arc n0·001813)))

-- nutation not added, and taken away
abbrev pub mean_for_true : Rad → Rad → Rad
mean_for_true mean nutation = mean

abbrev pub nutation_taken_away : Rad → Rad → Rad
nutation_taken_away mean nutation = rad (mean.0 ⊖ nutation.0)

-- the chain by another obliquity, of the mean one and nutation in it
abbrev pub chain_by : (Rad → Rad → Rad) → Edition → Rad → Rad → Float → Float → Answer Pair
chain_by obliquity edition asc dec day1 day2 =
    then (precess_eq_coords_rule edition asc dec day1 day2)
    (λ (p : Pair). then (nutation_rule day2)
    (λ (n : Pair). then (nutation_in_eq_coords_rule (point p) (rad (first n)) (rad (second n)) (obliquity (mean_obliquity_of day2) (rad (second n))))
    (λ (dn : Pair). then (stell_aberr_in_eq_coords_rule (point p) day2) (λ (da : Pair). answered (sum p dn da)))))

-- precession from the first day to itself
abbrev pub night_of_one_day : Edition → Float → Float → Night Refusal
night_of_one_day edition day1 day2 =
    let n = nutation_of day2 in
    night_from (eq_precession_of edition day1 day1) n (true_obliquity (mean_obliquity_of day2) n.oblq) (velocity_of day2)

-- the right ascension tested in the declination's place
abbrev pub precessed_point_not_steep : EqPoint → ℕ
precessed_point_not_steep p = lower (angle_refusal (rad p.asc)) (steep_refusal (rad p.asc))

-- in right ascension
abbrev pub aberration_added_first : EqPoint → Shift → Shift → EqPoint
aberration_added_first p n a = record { asc = (p.asc ⊕ a.asc.0) ⊕ n.asc.0; dec = (p.dec ⊕ n.dec.0) ⊕ a.dec.0 }

abbrev pub angles_of_the_night_not_tested : EqPoint → Night Refusal → Answer Pair
angles_of_the_night_not_tested p night =
    unless (point_refusal p)
    (answered (pair_of (moved_under p (direction_of p) night)))

-- the second day not tested
abbrev pub place_not_refused : Edition → Rad → Rad → Float → Float → Answer Pair
place_not_refused edition asc dec day1 day2 = unless (place_refusal asc dec day1 day1) (place_under asc dec (night_of edition day1 day2))

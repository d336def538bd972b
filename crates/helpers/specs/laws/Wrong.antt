-- Wrong variants are excluded: each differs from the rule at the input stated. A rule varies: a library that refuses everything, or
-- answers a constant, does not meet it.
use Rattle.std.specs.Prelude.{refl, ◌≢◌}
use Rattle.std.specs.Float.Ieee.{neg}
use Rattle.double.specs.rules.Operations.{bits, zero, one}
use Rattle.double.specs.laws.Apart.{apart}
use Rattle.quantity.specs.rules.Angle.{PI, deg, rad}
use Rattle.quantity.specs.rules.Refusal.{epoch}
use Rattle.quantity.specs.notions.Code.{of_float, of_deg, of_rad, of_answer}
use Rattle.quantity.specs.notions.Varies.{Varies}
use Rattle.quantity.specs.notions.Stated.{later}
use Rattle.helpers.specs.rules.Time.{julian_cent_rule}
use Rattle.helpers.specs.rules.Angle.{deg_frm_dms_rule, deg_frm_hms_rule, to_radians_rule, turn_in_degrees, limit_to_360_rule, limit_to_two_PI_rule}
use Rattle.helpers.specs.notions.Computed.{computed}
use Rattle.helpers.specs.notions.Wrong.{another_century, century_of_any_day, arc_is_time, time_regrouped, radians_of_nothing, another_turn}
use Rattle.helpers.specs.notions.Wrong.{remainder_not_lifted, half_a_turn}

-- ---- time

pub julian_cent_varies : Varies (julian_cent_rule later) (julian_cent_rule epoch)
unfolding computed
julian_cent_varies = record { here = refl; there = refl; apart = apart (of_answer of_float) refl }

pub another_century_excluded : another_century later ≢ julian_cent_rule later
unfolding computed
another_century_excluded = apart (of_answer of_float) refl

pub century_of_any_day_excluded : century_of_any_day zero ≢ julian_cent_rule zero
unfolding computed
century_of_any_day_excluded = apart (of_answer of_float) refl

-- ---- degrees, radians and seconds

pub deg_frm_dms_varies : Varies (deg_frm_dms_rule one) (deg_frm_dms_rule zero)
unfolding computed
deg_frm_dms_varies = record { here = refl; there = refl; apart = apart (of_answer of_deg) refl }

pub arc_is_time_excluded : arc_is_time one ≢ deg_frm_dms_rule one
unfolding computed
arc_is_time_excluded = apart (of_answer of_deg) refl

pub deg_frm_hms_varies : Varies (deg_frm_hms_rule one) (deg_frm_hms_rule zero)
unfolding computed
deg_frm_hms_varies = record { here = refl; there = refl; apart = apart (of_answer of_deg) refl }

-- 5.0
pub time_regrouped_excluded : time_regrouped (bits 0x4014000000000000) ≢ deg_frm_hms_rule (bits 0x4014000000000000)
unfolding computed
time_regrouped_excluded = apart (of_answer of_deg) refl

pub to_radians_varies : Varies (to_radians_rule (deg one)) (to_radians_rule (deg zero))
unfolding computed
to_radians_varies = record { here = refl; there = refl; apart = apart (of_answer of_rad) refl }

pub radians_of_nothing_excluded : radians_of_nothing (deg one) ≢ to_radians_rule (deg one)
unfolding computed
radians_of_nothing_excluded = apart (of_answer of_rad) refl

-- ---- one turn

pub limit_to_360_varies : Varies (limit_to_360_rule (deg one)) (limit_to_360_rule (deg zero))
unfolding computed
limit_to_360_varies = record { here = refl; there = refl; apart = apart (of_answer of_deg) refl }

pub another_turn_excluded : another_turn (deg turn_in_degrees) ≢ limit_to_360_rule (deg turn_in_degrees)
unfolding computed
another_turn_excluded = apart (of_answer of_deg) refl

pub remainder_not_lifted_excluded : remainder_not_lifted (deg (neg one)) ≢ limit_to_360_rule (deg (neg one))
unfolding computed
remainder_not_lifted_excluded = apart (of_answer of_deg) refl

pub limit_to_two_PI_varies : Varies (limit_to_two_PI_rule (rad one)) (limit_to_two_PI_rule (rad zero))
unfolding computed
limit_to_two_PI_varies = record { here = refl; there = refl; apart = apart (of_answer of_rad) refl }

pub half_a_turn_excluded : half_a_turn (rad PI) ≢ limit_to_two_PI_rule (rad PI)
unfolding computed
half_a_turn_excluded = apart (of_answer of_rad) refl

-- Wrong variants are excluded: each differs from the rule at the input stated.
use Rattle.std.specs.Prelude.{refl, ◌≢◌}
use Rattle.std.specs.Float.Ieee.{neg}
use Rattle.double.specs.rules.Operations.{bits, zero, one}
use Rattle.double.specs.laws.Apart.{apart}
use Rattle.quantity.specs.declared.Rad.{Rad}
use Rattle.quantity.specs.rules.Angle.{rad}
use Rattle.quantity.specs.rules.Answer.{Answer, answered, refused, Triple, triple}
use Rattle.text_number.specs.notions.Code.{of_text}
use Rattle.text_row.specs.rules.Place.{hours_text, degrees_text}
use Rattle.text_row.specs.rules.Row.{column_text, row_of}
use Rattle.text_row.specs.rules.PlanRow.{plan_row}
use Rattle.text_row.specs.notions.Computed.{computed}
use Rattle.text_row.specs.notions.Wrong.{seconds_not_carried, cut_not_rounded, degrees_for_hours, whole_turn_printed, not_folded}
use Rattle.text_row.specs.notions.Wrong.{sign_lost, minus_before_zero, number_at_the_left, refused_star_as_good}
use Rattle.text_row.specs.notions.Wrong.{rise_and_set_traded, line_in_row, never_rises_as_refused, again_left_out}

-- 0.0, 1.0 and −1.0
abbrev origin : Rad
origin = rad zero

abbrev radian : Rad
radian = rad one

abbrev minus_radian : Rad
minus_radian = rad (neg one)

-- 0.2617993659825338, which is 0.3 milliseconds less than an hour
abbrev below_hour : Rad
below_hour = rad (bits 0x3fd0c15220c08b8d)

-- −1e-20, which is folded to a whole turn
abbrev below_none : Rad
below_none = rad (neg (bits 0x3bc79ca10c924223))

-- minus half a degree, and −1e-9, which is 0.0002 seconds of arc
abbrev minus_half_degree : Rad
minus_half_degree = rad (neg (bits 0x3f81df46a2529d39))

abbrev minus_next : Rad
minus_next = rad (neg (bits 0x3e112e0be826d695))

pub seconds_not_carried_excluded : seconds_not_carried below_hour ≢ hours_text below_hour
unfolding computed
seconds_not_carried_excluded = apart of_text refl

pub cut_not_rounded_excluded : cut_not_rounded below_hour ≢ hours_text below_hour
unfolding computed
cut_not_rounded_excluded = apart of_text refl

pub degrees_for_hours_excluded : degrees_for_hours radian ≢ hours_text radian
unfolding computed
degrees_for_hours_excluded = apart of_text refl

pub whole_turn_printed_excluded : whole_turn_printed below_none ≢ hours_text below_none
unfolding computed
whole_turn_printed_excluded = apart of_text refl

pub not_folded_excluded : not_folded minus_radian ≢ hours_text minus_radian
unfolding computed
not_folded_excluded = apart of_text refl

pub sign_lost_excluded : sign_lost minus_half_degree ≢ degrees_text minus_half_degree
unfolding computed
sign_lost_excluded = apart of_text refl

pub minus_before_zero_excluded : minus_before_zero minus_next ≢ degrees_text minus_next
unfolding computed
minus_before_zero_excluded = apart of_text refl

pub number_at_the_left_excluded : number_at_the_left 7 ≢ column_text 7
unfolding computed
number_at_the_left_excluded = apart of_text refl

pub refused_star_as_good_excluded : refused_star_as_good 1 9 origin origin ≢ row_of 1 9 origin origin
unfolding computed
refused_star_as_good_excluded = apart of_text refl

-- a whole day above the horizon
abbrev whole_day : Answer Triple
whole_day = answered (triple zero zero one)

pub rise_and_set_traded_excluded : rise_and_set_traded 1 whole_day one ≢ plan_row 1 whole_day one
unfolding computed
rise_and_set_traded_excluded = apart of_text refl

pub line_in_row_excluded : line_in_row 1 (refused 9) one ≢ plan_row 1 (refused 9) one
unfolding computed
line_in_row_excluded = apart of_text refl

pub never_rises_as_refused_excluded : never_rises_as_refused 1 15 ≢ plan_row 1 (refused 15) one
unfolding computed
never_rises_as_refused_excluded = apart of_text refl

-- at the day's beginning
pub again_left_out_excluded : again_left_out 1 whole_day zero ≢ plan_row 1 whole_day zero
unfolding computed
again_left_out_excluded = apart of_text refl

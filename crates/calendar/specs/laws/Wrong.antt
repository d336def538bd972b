-- Wrong variants are excluded: each differs from the rule at the date or time stated.
use Rattle.std.specs.Prelude.{true, false, pos, refl, ◌≢◌}
use Rattle.double.specs.notions.Code.{of_float, of_number}
use Rattle.double.specs.laws.Apart.{apart}
use Rattle.calendar.specs.rules.Date.{date, days_before}
use Rattle.calendar.specs.rules.Number.{number_of, number_rule}
use Rattle.calendar.specs.rules.Julian.{julian_of}
use Rattle.calendar.specs.notions.Code.{of_numbered}
use Rattle.calendar.specs.notions.Computed.{computed}
use Rattle.calendar.specs.notions.Wrong.{
  every_fourth,
  no_century,
  leap_day_last,
  months_from_zero,
  number_by,
  julian_calendar,
  from_noon,
  dut1_subtracted,
  dut1_left_out,
}

pub every_fourth_excluded : number_by every_fourth (date 2000 1 1) ≢ number_of (date 2000 1 1)
unfolding computed
every_fourth_excluded = apart of_number refl

pub no_century_excluded : number_by no_century (date 2000 3 1) ≢ number_of (date 2000 3 1)
unfolding computed
no_century_excluded = apart of_number refl

pub leap_day_last_excluded : leap_day_last true 3 ≢ days_before true 3
unfolding computed
leap_day_last_excluded = apart of_number refl

pub months_from_zero_excluded : months_from_zero false 1 ≢ days_before false 1
unfolding computed
months_from_zero_excluded = apart of_number refl

-- Julian calendar: thirteen days later
pub julian_calendar_excluded : julian_calendar (date 2000 1 1) ≢ number_of (date 2000 1 1)
unfolding computed
julian_calendar_excluded = apart of_number refl

-- ---- times

pub from_noon_excluded : from_noon 2451545 0 (pos 0) ≢ julian_of 2451545 0 (pos 0)
unfolding computed
from_noon_excluded = apart of_float refl

-- 0.9 s
pub dut1_subtracted_excluded : dut1_subtracted 2451545 0 (pos 900) ≢ julian_of 2451545 0 (pos 900)
unfolding computed
dut1_subtracted_excluded = apart of_float refl

pub dut1_left_out_excluded : dut1_left_out 2451545 0 (pos 900) ≢ julian_of 2451545 0 (pos 900)
unfolding computed
dut1_left_out_excluded = apart of_float refl

-- ---- the rules vary

pub number_varies : number_rule (date 0 1 1) ≢ number_rule (date 0 1 2)
unfolding computed
number_varies = apart of_numbered refl

pub julian_varies : julian_of 2451545 0 (pos 0) ≢ julian_of 2451545 1 (pos 0)
unfolding computed
julian_varies = apart of_float refl

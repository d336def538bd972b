-- Wrong variants of the calendar.
use Rattle.std.specs.Prelude.{ℕ, suc, ◌+◌, ◌*◌, ◌%◌, Bool, false, cond, ℤ, pos, neg_ℤ, ◌==◌, Float}
use Rattle.double.specs.rules.Operations.{◌⊘◌}
use Rattle.double.specs.rules.Whole.{from_whole}
use Rattle.calendar.specs.declared.Date.{Date}
use Rattle.calendar.specs.rules.Date.{year_length, total, days_before}
use Rattle.calendar.specs.rules.Julian.{day_in_millis, plus, julian_of}

-- century years all leap
abbrev pub every_fourth : ℕ → Bool
every_fourth y = y % 4 == 0

-- century years never leap
abbrev pub no_century : ℕ → Bool
no_century y = cond (y % 100 == 0) false (y % 4 == 0)

-- March counted before the leap day
abbrev pub leap_day_last : Bool → ℕ → ℕ
leap_day_last l m = days_before false m

-- months from 0
abbrev pub months_from_zero : Bool → ℕ → ℕ
months_from_zero l m = days_before l (suc m)

-- a day number by the years of another calendar
abbrev pub number_by : (ℕ → Bool) → Date → ℕ
number_by leaps d = 1721059 + total (λ (y : ℕ). year_length (leaps y)) d.year + days_before (leaps d.year) d.month + d.day

-- the Julian calendar's own day number
abbrev pub julian_calendar : Date → ℕ
julian_calendar d = 1721057 + total (λ (y : ℕ). year_length (every_fourth y)) d.year + days_before (every_fourth d.year) d.month + d.day

-- the day begun at noon
abbrev pub from_noon : ℕ → ℕ → ℤ → Float
from_noon number millis dut1 = from_whole (plus (86400000 * number + millis) dut1) ⊘ day_in_millis

abbrev pub dut1_subtracted : ℕ → ℕ → ℤ → Float
dut1_subtracted number millis dut1 = julian_of number millis (neg_ℤ dut1)

abbrev pub dut1_left_out : ℕ → ℕ → ℤ → Float
dut1_left_out number millis dut1 = julian_of number millis (pos 0)

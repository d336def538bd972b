-- The day number of a date: the days counted, so that it is the Julian day at noon. The Julian day at 0h is a half less.
use Rattle.std.specs.Prelude.{ℕ, ◌+◌, cond, ◌==◌, nat_le, Result, Ok, Err}
use Rattle.calendar.specs.declared.Date.{Date}
use Rattle.calendar.specs.declared.Missing.{Missing}
use Rattle.calendar.specs.declared.Missing.TheVariants as missing
use Rattle.calendar.specs.rules.Date.{leap, month_length, days_before, days_before_year}

unfoldable pub number_of : Date → ℕ
number_of d = 1721059 + days_before_year d.year + days_before (leap d.year) d.month + d.day

pub data Numbered : Type 0 where
  is : ℕ → Numbered
  no_month : Numbered
  no_day : Numbered

abbrev pub shown_number : Result ℕ Missing → Numbered
shown_number (Ok n) = is n
shown_number (Err missing.Month) = no_month
shown_number (Err missing.Day) = no_day

unfoldable pub number_rule : Date → Numbered
number_rule d =
    let most = month_length (leap d.year) d.month in
    cond (most == 0) no_month (cond (d.day == 0) no_day (cond (nat_le d.day most) (is (number_of d)) no_day))

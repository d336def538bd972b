-- The date that the first ten bytes say: YYYY-MM-DD.
use Rattle.std.specs.Prelude.{ℕ, cond, List, eqb, ltb, Result, Ok, Err}
use Rattle.text_number.specs.rules.Bytes.{minus_sign}
use Rattle.calendar.specs.declared.Missing.{Missing}
use Rattle.calendar.specs.declared.Missing.TheVariants as missing
use Rattle.calendar.specs.rules.Date.{date}
use Rattle.calendar.specs.rules.Number as number
use Rattle.text_date.specs.declared.Reason.{Reason}
use Rattle.text_date.specs.declared.Reason.TheVariants.{NoDate, NoMonth, NoDay}
use Rattle.text_date.specs.rules.Digits as digits
use Rattle.text_date.specs.rules.Digits.{at, pair_at, year_at}

-- what is read, or why there is none
pub data Reading (A : Type 0) : Type 0 where
  is : A → Reading A
  none : Reason → Reading A

abbrev pub shown : {A : Type 0} → Result A Reason → Reading A
shown (Ok x) = is x
shown (Err k) = none k

-- what the calendar says of a date
abbrev pub reason_of : Missing → Reason
reason_of missing.Month = NoMonth
reason_of missing.Day = NoDay

abbrev pub from_number : number.Numbered → Reading ℕ
from_number (number.is n) = is n
from_number number.no_month = none NoMonth
from_number number.no_day = none NoDay

-- a number below a limit, or the reason
abbrev pub below : ℕ → ℕ → Reason → Reading ℕ
below limit n k = cond (ltb n limit) (is n) (none k)

unfoldable pub date_of : List ℕ → Reading ℕ
date_of text =
    cond (eqb (at text 4) minus_sign)
    (cond (eqb (at text 7) minus_sign)
    (cond (ltb (year_at text) digits.missing)
    (cond (ltb (pair_at text 5) 100)
    (cond (ltb (pair_at text 8) 100) (from_number (number.number_rule (date (year_at text) (pair_at text 5) (pair_at text 8)))) (none NoDay))
    (none NoMonth))
    (none NoDate))
    (none NoDate))
    (none NoDate)

-- `text_day::put_reason` meets its contract.
use mathlib.Core.Path.{sym, ap}
use Rattle.lent.specs.laws.Writing.{same}
use Rattle.text_day.specs.rules.Reason.{reason_text}
use Rattle.text_day.proofs.put_reason.Goals as goal

pub returns-in-NoDate : goal.returns-in-NoDate
unfolding reason_text
returns-in-NoDate c =
    same (ap reason_text (sym c.in-NoDate.is)) c.put.ensures

pub returns-in-NoMonth : goal.returns-in-NoMonth
unfolding reason_text
returns-in-NoMonth c =
    same (ap reason_text (sym c.in-NoMonth.is)) c.put-in-NoMonth.ensures

pub returns-in-NoDay : goal.returns-in-NoDay
unfolding reason_text
returns-in-NoDay c =
    same (ap reason_text (sym c.in-NoDay.is)) c.put-in-NoDay.ensures

pub returns-in-TooEarly : goal.returns-in-TooEarly
unfolding reason_text
returns-in-TooEarly c =
    same (ap reason_text (sym c.in-TooEarly.is)) c.put-in-TooEarly.ensures

pub returns-in-TooLate : goal.returns-in-TooLate
unfolding reason_text
returns-in-TooLate c =
    same (ap reason_text (sym c.in-TooLate.is)) c.put-in-TooLate.ensures

pub returns-in-NoTime : goal.returns-in-NoTime
unfolding reason_text
returns-in-NoTime c =
    same (ap reason_text (sym c.in-NoTime.is)) c.put-in-NoTime.ensures

pub returns-in-NoZ : goal.returns-in-NoZ
unfolding reason_text
returns-in-NoZ c =
    same (ap reason_text (sym c.in-NoZ.is)) c.put-in-NoZ.ensures

pub returns-in-NoFraction : goal.returns-in-NoFraction
unfolding reason_text
returns-in-NoFraction c =
    same (ap reason_text (sym c.in-NoFraction.is)) c.put-in-NoFraction.ensures

pub returns-in-NoHour : goal.returns-in-NoHour
unfolding reason_text
returns-in-NoHour c =
    same (ap reason_text (sym c.in-NoHour.is)) c.put-in-NoHour.ensures

pub returns-in-NoMinute : goal.returns-in-NoMinute
unfolding reason_text
returns-in-NoMinute c =
    same (ap reason_text (sym c.in-NoMinute.is)) c.put-in-NoMinute.ensures

pub returns-in-NoSecond : goal.returns-in-NoSecond
unfolding reason_text
returns-in-NoSecond c =
    same (ap reason_text (sym c.in-NoSecond.is)) c.put-in-NoSecond.ensures

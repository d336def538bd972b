-- `report_day::put_day` meets its contract.
use Rattle.lent.specs.laws.Writing.{same}
use Rattle.quantity.specs.laws.Answer.{number_not_none}
use Rattle.report_day.specs.rules.Day.{day_of}
use Rattle.report_day.proofs.put_day.Goals as goal

pub returns-in-Ok : goal.returns-in-Ok
unfolding day_of
returns-in-Ok c =
    same (rw (← c.day_refusal.ensures, c.in-Ok.is, c.apparent_on.ensures, c.mean_on.ensures)) c.put_text.ensures

pub returns-in-Err : goal.returns-in-Err
unfolding day_of
returns-in-Err c =
    same (rw (← c.day_refusal.ensures, c.in-Err.is, c.number.ensures, number_not_none c.in-Err.refusal)) c.put_refused.ensures

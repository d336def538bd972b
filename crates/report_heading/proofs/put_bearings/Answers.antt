-- `report_heading::put_bearings` meets its contract.
use Rattle.lent.specs.laws.Writing.{same}
use Rattle.report_heading.proofs.put_bearings.Goals as goal

pub returns-in-Ok : goal.returns-in-Ok
returns-in-Ok c =
    same (rw c.in-Ok.is) c.put_read.ensures

pub returns-in-Err : goal.returns-in-Err
returns-in-Err c =
    same (rw (c.in-Err.is, c.number.ensures)) c.put_sight_refusal.ensures

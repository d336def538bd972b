-- `report_heading::put_beside` meets its contract.
use Rattle.lent.specs.laws.Writing.{after, same}
use Rattle.report_heading.proofs.put_beside.Goals as goal

pub returns-in-Ok : goal.returns-in-Ok
returns-in-Ok c =
    same (rw c.in-Ok.is) (after c.put_lines-a.ensures (after c.put_mark-b.ensures c.put_open.ensures))

pub returns-in-Err : goal.returns-in-Err
returns-in-Err c =
    same (rw (c.in-Err.is, c.number.ensures)) c.put_mark_refusal.ensures

-- `report_heading::put_read` meets its contract.
use Rattle.lent.specs.laws.Writing.{after, same}
use Rattle.report_heading.proofs.put_read.Goals as goal

pub returns-in-None : goal.returns-in-None
returns-in-None c =
    same (rw c.in-None.is) (after c.put_lines-a.ensures c.put_open.ensures)

pub returns-in-Some : goal.returns-in-Some
returns-in-Some c =
    same (rw c.in-Some.is (rw c.mark_heading-answer.ensures)) c.put_beside.ensures

-- `report::put_rotated` meets its contract.
use mathlib.Core.Path.{refl}
use Rattle.lent.specs.laws.Writing.{after, same}
use Rattle.report.specs.laws.Report.{rotated_refused, rotated_is}
use Rattle.report.proofs.put_rotated.Goals as goal

pub returns-in-Ok : goal.returns-in-Ok
returns-in-Ok c =
    same (rotated_is _ c.rotate-done.ensures refl refl refl c.in-Ok.is) (after c.put-a.ensures c.put_list.ensures)

pub returns-in-Err : goal.returns-in-Err
returns-in-Err c =
    same (rotated_refused _ c.rotate-done.ensures refl refl refl c.in-Err.is) (rw c.number.ensures at c.put_refused.ensures)

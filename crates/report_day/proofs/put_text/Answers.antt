-- `report_day::put_text` meets its contract.
use Rattle.lent.specs.laws.Writing.{after}
use Rattle.report_day.specs.rules.Day.{day_text}
use Rattle.report_day.proofs.put_text.Goals as goal

pub returns : goal.returns
unfolding day_text
returns c =
    after c.put-a.ensures (after c.put_exact-b.ensures (after c.put-c.ensures (after c.put_angle-d.ensures
    (after c.put-e.ensures (after c.put_angle-f.ensures c.put_open.ensures)))))

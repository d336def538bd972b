-- `text_row::put_times_row` meets its contract.
use Rattle.lent.specs.laws.Writing.{after}
use Rattle.text_row.specs.rules.PlanRow.{times_row}
use Rattle.text_row.proofs.put_times_row.Goals as goal

pub returns : goal.returns
unfolding times_row
returns c =
    after c.put_time-a.ensures
    (after c.put-b.ensures (after c.put_time-c.ensures (after c.put-d.ensures
    (after c.put_time-e.ensures (after c.put_again-f.ensures c.put_byte.ensures)))))

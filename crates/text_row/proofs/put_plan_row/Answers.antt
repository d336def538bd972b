-- `text_row::put_plan_row` meets its contract.
use Rattle.lent.specs.laws.Writing.{after}
use Rattle.text_row.specs.rules.PlanRow.{plan_row}
use Rattle.text_row.proofs.put_plan_row.Goals as goal

pub returns : goal.returns
unfolding plan_row
returns c =
    after c.put_column-b.ensures (after c.put-c.ensures c.put_outcome_row.ensures)

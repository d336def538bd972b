-- `report_day::put_six` meets its contract.
use Rattle.lent.specs.laws.Writing.{after}
use Rattle.report_day.specs.rules.Day.{six_digits}
use Rattle.report_day.proofs.put_six.Goals as goal

pub returns : goal.returns
unfolding six_digits
returns c =
    after c.put_two-a.ensures (after c.put_two-b.ensures c.put_two.ensures)

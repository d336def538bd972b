-- `report_day::put_angle` meets its contract.
use Rattle.lent.specs.laws.Writing.{after}
use Rattle.report_day.specs.rules.Day.{angle_text}
use Rattle.report_day.proofs.put_angle.Goals as goal

pub returns : goal.returns
unfolding angle_text
returns c =
    after c.put_degrees-a.ensures (after c.put-b.ensures (after c.put_hours-c.ensures c.put.ensures))

-- `report_heading::put_sky` meets its contract.
use Rattle.lent.specs.laws.Writing.{after, same}
use Rattle.report_heading.specs.rules.Sight.{sky_from}
use Rattle.report_heading.proofs.put_sky.Goals as goal

pub returns : goal.returns
unfolding sky_from
returns c =
    same (rw c.plan_alt.ensures)
    (after c.put-a.ensures (after c.put_angle-b.ensures (after c.put-c.ensures c.put_altitude.ensures)))

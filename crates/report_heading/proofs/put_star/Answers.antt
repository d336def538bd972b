-- `report_heading::put_star` meets its contract.
use Rattle.lent.specs.laws.Writing.{after}
use Rattle.report_heading.specs.rules.Sight.{star_text}
use Rattle.report_heading.proofs.put_star.Goals as goal

pub returns : goal.returns
unfolding star_text
returns c =
    after c.put-a.ensures (after c.put_decimal-b.ensures (after c.put-c.ensures (after c.put_circle-d.ensures c.put.ensures)))

-- `report_heading::put_lines` meets its contract.
use Rattle.lent.specs.laws.Writing.{after}
use Rattle.report_heading.specs.rules.Sight.{lines_text}
use Rattle.report_heading.proofs.put_lines.Goals as goal

pub returns : goal.returns
unfolding lines_text
returns c =
    after c.put_place-a.ensures (after c.put_edition-b.ensures (after c.put_star-c.ensures c.put_sky.ensures))

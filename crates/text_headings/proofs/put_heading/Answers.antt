-- `text_headings::put_heading` meets its contract.
use Rattle.lent.specs.laws.Writing.{after}
use Rattle.text_headings.specs.rules.Sight.{heading_text}
use Rattle.text_headings.proofs.put_heading.Goals as goal

pub returns : goal.returns
unfolding heading_text
returns c =
    after c.put_sight_of-a.ensures (after c.put-b.ensures (after c.put_circle-c.ensures (after c.put-d.ensures c.put_residual.ensures)))

-- `text_heading::put_mark` meets its contract.
use Rattle.lent.specs.laws.Writing.{after}
use Rattle.text_heading.specs.rules.Angle.{mark_text}
use Rattle.text_heading.proofs.put_mark.Goals as goal

pub returns : goal.returns
unfolding mark_text
returns c =
    after c.put-a.ensures (after c.put_circle-b.ensures c.put.ensures)

-- `text_heading::put_column` meets its contract.
use Rattle.lent.specs.laws.Writing.{after, same}
use Rattle.text_heading.specs.rules.Angle.{column_text}
use Rattle.text_heading.proofs.put_column.Goals as goal

pub returns : goal.returns
unfolding column_text
returns c =
    same (rw c.lead.ensures) (after c.put_pad-a.ensures (after c.put_byte-b.ensures c.put_arc.ensures))

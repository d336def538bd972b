-- `text_heading::put_arc` meets its contract.
use Rattle.lent.specs.laws.Writing.{after}
use Rattle.text_heading.specs.rules.Angle.{arc_text}
use Rattle.text_heading.proofs.put_arc.Goals as goal

pub returns : goal.returns
unfolding arc_text
returns c =
    after c.put_decimal-a.ensures (after c.put_byte-b.ensures (after c.put_two-c.ensures (after c.put_byte-d.ensures (after c.put_two-e.ensures (after c.put_byte-f.ensures (after c.put_decimal-g.ensures c.put_byte.ensures))))))

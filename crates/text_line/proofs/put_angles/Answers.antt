-- `text_line::put_angles` meets its contract.
use mathlib.Core.List.{append_assoc}
use Rattle.lent.specs.laws.Writing.{after, same}
use Rattle.text_line.specs.rules.Line.{angles_text}
use Rattle.text_line.proofs.put_angles.Goals as goal

pub returns : goal.returns
unfolding angles_text
returns c =
    same (simp append_assoc) (after (after (after c.put_angle_then-a.ensures c.put_angle_then-b.ensures) c.put_bits_then-c.ensures) c.put_bits_then.ensures)

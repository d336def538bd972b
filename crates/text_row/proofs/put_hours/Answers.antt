-- `text_row::put_hours` meets its contract.
use mathlib.Core.List.{append_assoc}
use Rattle.lent.specs.laws.Writing.{after, same}
use Rattle.text_row.specs.rules.Place.{hours_text}
use Rattle.text_row.proofs.put_hours.Goals as goal

pub returns : goal.returns
unfolding hours_text
returns c =
    same (simp (append_assoc, c.milliseconds_of-n.ensures))
    (after (after c.put_clock-a.ensures c.put_byte-b.ensures) c.put_three.ensures)

-- `text_row::put_place` meets its contract.
use mathlib.Core.List.{append_assoc}
use Rattle.lent.specs.laws.Writing.{after, same}
use Rattle.text_row.specs.rules.Row.{place_text}
use Rattle.text_row.proofs.put_place.Goals as goal

pub returns : goal.returns
unfolding place_text
returns c =
    same (simp append_assoc)
    (after (after (after c.put_hours-a.ensures c.put-b.ensures) c.put_degrees-c.ensures) c.put_byte.ensures)

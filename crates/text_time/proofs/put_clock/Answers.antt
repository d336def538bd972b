-- `text_time::put_clock` meets its contract.
use mathlib.Core.List.{append_assoc}
use Rattle.lent.specs.laws.Writing.{after, same}
use Rattle.text_time.specs.rules.Time.{clock_text}
use Rattle.text_time.proofs.put_clock.Goals as goal

pub returns : goal.returns
unfolding clock_text
returns c =
    same (simp append_assoc)
    (after (after (after (after c.put_two-a.ensures c.put_byte-b.ensures) c.put_two-c.ensures) c.put_byte-d.ensures)
    c.put_two.ensures)

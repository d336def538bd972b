-- `text_time::put_times` meets its contract.
use Rattle.lent.specs.laws.Writing.{after}
use Rattle.text_time.specs.rules.Line.{times_text}
use Rattle.text_time.proofs.put_times.Goals as goal

pub returns : goal.returns
unfolding times_text
returns c =
    after c.put_time_then-a.ensures
    (after c.put_time_then-b.ensures (after c.put_time-c.ensures (after c.put_again-d.ensures c.put_byte.ensures)))

-- `text_time::put_line` meets its contract.
use mathlib.Core.List.{append_assoc}
use Rattle.lent.specs.laws.Writing.{after, same}
use Rattle.text_time.specs.rules.Line.{plan_line}
use Rattle.text_time.proofs.put_line.Goals as goal

pub returns : goal.returns
unfolding plan_line
returns c =
    same (simp append_assoc) (after (after c.put_decimal-b.ensures c.put_byte-c.ensures) c.put_outcome.ensures)

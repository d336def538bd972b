-- `text_time::put_time_then` meets its contract.
use Rattle.lent.specs.laws.Writing.{after}
use Rattle.text_time.specs.rules.Line.{time_then}
use Rattle.text_time.proofs.put_time_then.Goals as goal

pub returns : goal.returns
unfolding time_then
returns c = after c.put_time-a.ensures c.put_byte.ensures

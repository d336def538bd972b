-- `text_line::put_angle_then` meets its contract.
use Rattle.lent.specs.laws.Writing.{after}
use Rattle.text_line.specs.rules.Line.{angle_then}
use Rattle.text_line.proofs.put_angle_then.Goals as goal

pub returns : goal.returns
unfolding angle_then
returns c = after c.put_angle-a.ensures c.put_byte.ensures

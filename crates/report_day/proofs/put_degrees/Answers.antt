-- `report_day::put_degrees` meets its contract.
use Rattle.lent.specs.laws.Writing.{after, same}
use Rattle.report_day.specs.rules.Day.{degrees_text}
use Rattle.report_day.proofs.put_degrees.Goals as goal

pub returns : goal.returns
unfolding degrees_text
returns c =
    same (rw c.millionths_of-n.ensures)
    (after c.put_decimal-a.ensures (after c.put_byte-b.ensures c.put_six.ensures))

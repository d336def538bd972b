-- `report_day::put_exact` meets its contract.
use Rattle.lent.specs.laws.Writing.{after, same}
use Rattle.report_day.specs.rules.Digits.{exact_text}
use Rattle.report_day.proofs.put_exact.Goals as goal

pub returns : goal.returns
unfolding exact_text
returns c =
    same (rw c.parts_of-parts.ensures)
    (after c.put_decimal-a.ensures (after c.put_byte-b.ensures c.put_digits.ensures))

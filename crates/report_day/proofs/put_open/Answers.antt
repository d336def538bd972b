-- `report_day::put_open` meets its contract.
use Rattle.lent.specs.laws.Writing.{nothing, same}
use Rattle.report_day.specs.rules.Day.{open_text}
use Rattle.report_day.proofs.put_open.Goals as goal

pub returns-then-utc : goal.returns-then-utc
unfolding open_text
returns-then-utc c = same (rw c.if-utc.true) c.put.ensures

pub returns : goal.returns
unfolding open_text
returns c = same (rw c.if-utc.false) (nothing _ _ _ c.within.ensures)

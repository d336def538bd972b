-- `report_heading::put_sight` meets its contract.
use Rattle.lent.specs.laws.Writing.{same}
use Rattle.report_heading.proofs.put_sight.Goals as goal

pub returns : goal.returns
returns c = same (rw c.find-found.ensures) c.put_found.ensures

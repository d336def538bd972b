-- `text_heading::put_seen` meets its contract.
use Rattle.lent.specs.laws.Writing.{nothing, same}
use Rattle.text_heading.proofs.put_seen.Goals as goal

pub returns-in-Err : goal.returns-in-Err
returns-in-Err g c = same (rw c.in-Err.is) (nothing _ _ _ c.within.ensures)

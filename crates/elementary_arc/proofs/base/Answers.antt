-- `elementary_arc::base` meets its contract.
use Rattle.elementary_arc.proofs.base.Goals as goal

pub returns-then-y-x : goal.returns-then-y-x
returns-then-y-x c = rw c.if-y-x.true c.atn.ensures

pub returns-else-y-x : goal.returns-else-y-x
returns-else-y-x c = rw c.if-y-x.false (rw c.atn-else-y-x.ensures)

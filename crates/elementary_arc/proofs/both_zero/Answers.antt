-- `elementary_arc::both_zero` meets its contract.
use Rattle.elementary_arc.proofs.both_zero.Goals as goal

pub returns-then-y : goal.returns-then-y
returns-then-y c = rw c.if-y.true

pub returns-else-y : goal.returns-else-y
returns-else-y c = rw c.if-y.false

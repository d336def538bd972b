-- `elementary_arc::supplement_if` meets its contract.
use Rattle.elementary_arc.proofs.supplement_if.Goals as goal

pub returns-then-minus : goal.returns-then-minus
returns-then-minus c = rw c.if-minus.true

pub returns-else-minus : goal.returns-else-minus
returns-else-minus c = rw c.if-minus.false

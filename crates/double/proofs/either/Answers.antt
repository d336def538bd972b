-- `double::either` meets its contract.
use Rattle.double.proofs.either.Goals as goal

pub returns-then-flag : goal.returns-then-flag
returns-then-flag c = rw c.if-flag.true

pub returns-else-flag : goal.returns-else-flag
returns-else-flag c = rw c.if-flag.false

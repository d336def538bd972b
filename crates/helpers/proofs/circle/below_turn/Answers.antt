-- `helpers::circle::below_turn` meets its contract.
use Rattle.helpers.specs.rules.Circle.{below_turn}
use Rattle.helpers.proofs.circle.below_turn.Goals as goal

pub returns-then-x : goal.returns-then-x
unfolding below_turn
returns-then-x c = rw c.if-x.true

pub returns-else-x : goal.returns-else-x
unfolding below_turn
returns-else-x c = rw c.if-x.false

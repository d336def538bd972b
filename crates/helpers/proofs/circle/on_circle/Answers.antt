-- `helpers::circle::on_circle` meets its contract.
use Rattle.helpers.specs.rules.Circle.{on_circle}
use Rattle.helpers.proofs.circle.on_circle.Goals as goal

pub returns : goal.returns
unfolding on_circle
returns c = rw c.within_360.ensures at c.below_turn.ensures

-- `quantity::distance_refusal` meets its contract.
use Rattle.quantity.specs.rules.Refusal.{distance_refusal}
use Rattle.quantity.proofs.distance_refusal.Goals as goal

pub returns : goal.returns
unfolding distance_refusal
returns c = c.outside.ensures

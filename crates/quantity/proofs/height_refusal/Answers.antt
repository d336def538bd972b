-- `quantity::height_refusal` meets its contract.
use Rattle.quantity.specs.rules.Refusal.{height_refusal}
use Rattle.quantity.proofs.height_refusal.Goals as goal

pub returns : goal.returns
unfolding height_refusal
returns c = c.outside.ensures

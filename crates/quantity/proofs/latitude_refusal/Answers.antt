-- `quantity::latitude_refusal` meets its contract.
use Rattle.quantity.specs.rules.Refusal.{latitude_refusal}
use Rattle.quantity.proofs.latitude_refusal.Goals as goal

pub returns : goal.returns
unfolding latitude_refusal
returns c = c.past.ensures

-- `quantity::angle_refusal` meets its contract.
use Rattle.quantity.specs.rules.Refusal.{angle_refusal}
use Rattle.quantity.proofs.angle_refusal.Goals as goal

pub returns : goal.returns
unfolding angle_refusal
returns c = c.past.ensures

-- `quantity::steep_refusal` meets its contract.
use Rattle.quantity.specs.rules.Refusal.{steep_refusal}
use Rattle.quantity.proofs.steep_refusal.Goals as goal

pub returns : goal.returns
unfolding steep_refusal
returns c = rw (c.past.ensures, c.latitude_refusal.ensures) at c.lower.ensures

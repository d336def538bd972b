-- `transit::observer_refusal` meets its contract.
use Rattle.std.proofs.Common.{rules}
use Rattle.transit.specs.rules.RiseCulmSet.{observer_refusal}
use Rattle.transit.proofs.observer_refusal.Goals as goal

pub returns : goal.returns
unfolding observer_refusal
returns c = search rules

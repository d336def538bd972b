-- `parallax::observer_refusal` meets its contract.
use Rattle.std.proofs.Common.{rules}
use Rattle.parallax.specs.rules.Observer.{observer_refusal}
use Rattle.parallax.proofs.observer_refusal.Goals as goal

pub returns : goal.returns
unfolding observer_refusal
returns c = search rules

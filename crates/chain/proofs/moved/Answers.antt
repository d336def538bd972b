-- `chain::moved` meets its contract.
use mathlib.Core.Path.{refl}
use Rattle.chain.specs.rules.Night.{moved}
use Rattle.chain.proofs.moved.Goals as goal

pub returns : goal.returns
unfolding moved
returns c = refl

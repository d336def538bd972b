-- `chain::mean_obliquity` meets its contract.
use mathlib.Core.Path.{refl}
use Rattle.chain.specs.rules.Obliquity.{mean_obliquity}
use Rattle.chain.proofs.mean_obliquity.Goals as goal

pub returns : goal.returns
unfolding mean_obliquity
returns c = refl

-- `chain::true_obliquity` meets its contract.
use mathlib.Core.Path.{refl}
use Rattle.chain.specs.rules.Obliquity.{true_obliquity}
use Rattle.chain.proofs.true_obliquity.Goals as goal

pub returns : goal.returns
unfolding true_obliquity
returns c = refl

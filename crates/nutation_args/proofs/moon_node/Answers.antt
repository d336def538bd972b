-- `nutation_args::moon_node` meets its contract.
use mathlib.Core.Path.{refl}
use Rattle.nutation_args.specs.rules.Arguments.{moon_node}
use Rattle.nutation_args.proofs.moon_node.Goals as goal

pub returns : goal.returns
unfolding moon_node
returns c = refl

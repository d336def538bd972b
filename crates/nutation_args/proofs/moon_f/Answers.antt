-- `nutation_args::moon_f` meets its contract.
use mathlib.Core.Path.{refl}
use Rattle.nutation_args.specs.rules.Arguments.{moon_f}
use Rattle.nutation_args.proofs.moon_f.Goals as goal

pub returns : goal.returns
unfolding moon_f
returns c = refl

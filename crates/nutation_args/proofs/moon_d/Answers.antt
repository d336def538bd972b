-- `nutation_args::moon_d` meets its contract.
use mathlib.Core.Path.{refl}
use Rattle.nutation_args.specs.rules.Arguments.{moon_d}
use Rattle.nutation_args.proofs.moon_d.Goals as goal

pub returns : goal.returns
unfolding moon_d
returns c = refl

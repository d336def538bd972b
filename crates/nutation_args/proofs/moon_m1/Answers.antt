-- `nutation_args::moon_m1` meets its contract.
use mathlib.Core.Path.{refl}
use Rattle.nutation_args.specs.rules.Arguments.{moon_m1}
use Rattle.nutation_args.proofs.moon_m1.Goals as goal

pub returns : goal.returns
unfolding moon_m1
returns c = refl

-- `nutation_args::moon_from` meets its contract.
use mathlib.Core.Path.{refl}
use Rattle.nutation_args.specs.rules.Arguments.{moon_from}
use Rattle.nutation_args.proofs.moon_from.Goals as goal

pub returns : goal.returns
unfolding moon_from
returns c = refl

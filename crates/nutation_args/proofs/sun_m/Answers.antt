-- `nutation_args::sun_m` meets its contract.
use mathlib.Core.Path.{refl}
use Rattle.nutation_args.specs.rules.Arguments.{sun_m}
use Rattle.nutation_args.proofs.sun_m.Goals as goal

pub returns : goal.returns
unfolding sun_m
returns c = refl

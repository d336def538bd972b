-- `sidereal::mean_in_degrees` meets its contract.
use mathlib.Core.Path.{refl}
use Rattle.sidereal.specs.rules.Mean.{mean_in_degrees}
use Rattle.sidereal.proofs.mean_in_degrees.Goals as goal

pub returns : goal.returns
unfolding mean_in_degrees
returns c = refl

-- `nutation::nutation_at` meets its contract.
use mathlib.Core.Path.{refl}
use Rattle.nutation.specs.rules.Point.{nutation_at}
use Rattle.nutation.proofs.nutation_at.Goals as goal

pub returns : goal.returns
unfolding nutation_at
returns c = refl

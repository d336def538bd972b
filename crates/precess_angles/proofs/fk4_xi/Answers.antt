-- `precess_angles::fk4_xi` meets its contract.
use mathlib.Core.Path.{refl}
use Rattle.precess_angles.specs.rules.Fk4.{fk4_xi}
use Rattle.precess_angles.proofs.fk4_xi.Goals as goal

pub returns : goal.returns
unfolding fk4_xi
returns c = refl

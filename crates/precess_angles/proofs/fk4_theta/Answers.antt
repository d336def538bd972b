-- `precess_angles::fk4_theta` meets its contract.
use mathlib.Core.Path.{refl}
use Rattle.precess_angles.specs.rules.Fk4.{fk4_theta}
use Rattle.precess_angles.proofs.fk4_theta.Goals as goal

pub returns : goal.returns
unfolding fk4_theta
returns c = refl

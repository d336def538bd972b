-- `precess_angles::degrees_as_radians` meets its contract.
use mathlib.Core.Path.{refl}
use Rattle.precess_angles.specs.rules.Fk4.{degrees_as_radians}
use Rattle.precess_angles.proofs.degrees_as_radians.Goals as goal

pub returns : goal.returns
unfolding degrees_as_radians
returns c = refl

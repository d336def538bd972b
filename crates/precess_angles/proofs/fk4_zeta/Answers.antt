-- `precess_angles::fk4_zeta` meets its contract.
use mathlib.Core.Path.{refl}
use Rattle.precess_angles.specs.rules.Fk4.{fk4_zeta}
use Rattle.precess_angles.proofs.fk4_zeta.Goals as goal

pub returns : goal.returns
unfolding fk4_zeta
returns c = refl

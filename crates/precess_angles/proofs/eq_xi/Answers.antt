-- `precess_angles::eq_xi` meets its contract.
use mathlib.Core.Path.{refl}
use Rattle.precess_angles.specs.rules.Equatorial.{eq_xi}
use Rattle.precess_angles.proofs.eq_xi.Goals as goal

pub returns : goal.returns
unfolding eq_xi
returns c = refl

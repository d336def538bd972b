-- `precess_angles::eq_theta` meets its contract.
use Rattle.precess_angles.specs.rules.Equatorial.{eq_theta}
use Rattle.precess_angles.proofs.eq_theta.Goals as goal

pub returns : goal.returns
unfolding eq_theta
returns c = rw c.by_edition-x.ensures

-- `precess_angles::eq_zeta` meets its contract.
use Rattle.precess_angles.specs.rules.Equatorial.{eq_zeta}
use Rattle.precess_angles.proofs.eq_zeta.Goals as goal

pub returns : goal.returns
unfolding eq_zeta
returns c = rw c.by_edition-z.ensures

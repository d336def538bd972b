-- `precess_angles::eq_precession` meets its contract.
use Rattle.precess_angles.specs.rules.Equatorial.{eq_precession_of}
use Rattle.precess_angles.proofs.eq_precession.Goals as goal

pub returns : goal.returns
unfolding eq_precession_of
returns c = rw c.eq_angles.ensures at c.precession_by.ensures

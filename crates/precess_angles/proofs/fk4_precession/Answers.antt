-- `precess_angles::fk4_precession` meets its contract.
use Rattle.precess_angles.specs.rules.Fk4.{fk4_precession_of}
use Rattle.precess_angles.proofs.fk4_precession.Goals as goal

pub returns : goal.returns
unfolding fk4_precession_of
returns c = rw c.fk4_angles.ensures at c.precession_by.ensures

-- `precess_angles::precession_by` meets its contract.
use Rattle.elementary.specs.rules.Sine.{sin_cos_of}
use Rattle.precess_angles.specs.rules.Equatorial.{precession_by}
use Rattle.precess_angles.proofs.precession_by.Goals as goal

pub returns : goal.returns
unfolding precession_by sin_cos_of
returns c = rw c.sin_cos_of-t.ensures

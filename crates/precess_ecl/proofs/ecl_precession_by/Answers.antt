-- `precess_ecl::ecl_precession_by` meets its contract.
use Rattle.elementary.specs.rules.Sine.{sin_cos_of}
use Rattle.precess_ecl.specs.rules.Ecliptic.{ecl_precession_by}
use Rattle.precess_ecl.proofs.ecl_precession_by.Goals as goal

pub returns : goal.returns
unfolding ecl_precession_by sin_cos_of
returns c = rw c.sin_cos_of-t.ensures

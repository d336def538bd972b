-- `precess_ecl::ecl_precession` meets its contract.
use Rattle.precess_ecl.specs.rules.Ecliptic.{ecl_precession_of}
use Rattle.precess_ecl.proofs.ecl_precession.Goals as goal

pub returns : goal.returns
unfolding ecl_precession_of
returns c =
    rw (c.radians-3.ensures, c.ecl_rho.ensures, c.radians-2.ensures, c.ecl_pi.ensures, c.radians.ensures, c.ecl_nu.ensures, c.span-t.ensures, c.century-c.ensures) at c.ecl_precession_by.ensures

-- `precess_angles::eq_angles` meets its contract.
use Rattle.precess_angles.specs.rules.Equatorial.{eq_angles_of}
use Rattle.precess_angles.proofs.eq_angles.Goals as goal

pub returns : goal.returns
unfolding eq_angles_of
returns c =
    rw (c.radians-3.ensures, c.eq_theta.ensures, c.radians-2.ensures, c.eq_zeta.ensures, c.radians.ensures, c.eq_xi.ensures, c.span-t.ensures, c.century-c.ensures)

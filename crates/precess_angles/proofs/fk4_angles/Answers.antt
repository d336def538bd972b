-- `precess_angles::fk4_angles` meets its contract.
use Rattle.precess_angles.specs.rules.Fk4.{fk4_angles_of}
use Rattle.precess_angles.proofs.fk4_angles.Goals as goal

pub returns : goal.returns
unfolding fk4_angles_of
returns c =
    rw (c.fk4_angle-3.ensures, c.fk4_theta.ensures, c.fk4_angle-2.ensures, c.fk4_zeta.ensures, c.fk4_angle.ensures, c.fk4_xi-xi.ensures, c.fk4_span-t.ensures, c.fk4_century-c.ensures)

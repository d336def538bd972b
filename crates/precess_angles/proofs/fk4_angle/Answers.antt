-- `precess_angles::fk4_angle` meets its contract.
use Rattle.precess_angles.specs.rules.Fk4.{fk4_angle}
use Rattle.precess_angles.proofs.fk4_angle.Goals as goal

pub returns-in-Crate : goal.returns-in-Crate
unfolding fk4_angle
returns-in-Crate c = rw c.in-Crate.is c.degrees_as_radians.ensures

pub returns-in-Published : goal.returns-in-Published
unfolding fk4_angle
returns-in-Published c = rw c.in-Published.is c.radians.ensures

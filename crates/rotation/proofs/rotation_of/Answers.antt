-- `rotation::rotation_of` meets its contract.
use Rattle.rotation.specs.rules.Turns.{rotation_of}
use Rattle.rotation.proofs.rotation_of.Goals as goal

pub returns : goal.returns
unfolding rotation_of
returns c = rw c.eq_angles.ensures at c.rotation_by.ensures

-- `brundelak::angles::brundelak_to_radians` meets its contract.
use Rattle.brundelak_handed.specs.laws.Boundary.{handed_radians}
use Rattle.brundelak.proofs.angles.brundelak_to_radians.Goals as goal

pub returns : goal.returns
returns c = handed_radians c.to_radians.ensures c.hand_radians.ensures

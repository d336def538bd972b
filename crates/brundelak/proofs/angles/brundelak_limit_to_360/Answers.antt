-- `brundelak::angles::brundelak_limit_to_360` meets its contract.
use Rattle.brundelak_handed.specs.laws.Boundary.{handed_degrees}
use Rattle.brundelak.proofs.angles.brundelak_limit_to_360.Goals as goal

pub returns : goal.returns
returns c = handed_degrees c.limit_to_360.ensures c.hand_degrees.ensures

-- `brundelak::angles::brundelak_limit_to_two_pi` meets its contract.
use Rattle.brundelak_handed.specs.laws.Boundary.{handed_radians}
use Rattle.brundelak.proofs.angles.brundelak_limit_to_two_pi.Goals as goal

pub returns : goal.returns
returns c = handed_radians c.limit_to_two_PI.ensures c.hand_radians.ensures

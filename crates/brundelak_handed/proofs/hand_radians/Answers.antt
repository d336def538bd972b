-- `brundelak_handed::hand_radians` meets its contract.
use Rattle.brundelak_handed.specs.laws.Boundary.{handed}
use Rattle.brundelak_handed.proofs.hand_radians.Goals as goal

pub returns : goal.returns
returns g c = handed c.radians_number.ensures c.hand.ensures

-- `brundelak_handed::hand_degrees` meets its contract.
use Rattle.brundelak_handed.specs.laws.Boundary.{handed}
use Rattle.brundelak_handed.proofs.hand_degrees.Goals as goal

pub returns : goal.returns
returns g c = handed c.degrees_number.ensures c.hand.ensures

-- `brundelak_handed::hand_arcminutes` meets its contract.
use Rattle.brundelak_handed.specs.laws.Boundary.{handed}
use Rattle.brundelak_handed.proofs.hand_arcminutes.Goals as goal

pub returns : goal.returns
returns g c = handed c.arcminutes_number.ensures c.hand.ensures

-- `brundelak::functions::brundelak_tangent` meets its contract.
use Rattle.brundelak_handed.specs.laws.Boundary.{handed}
use Rattle.brundelak.proofs.functions.brundelak_tangent.Goals as goal

pub returns : goal.returns
returns c = handed c.tangent.ensures c.hand.ensures

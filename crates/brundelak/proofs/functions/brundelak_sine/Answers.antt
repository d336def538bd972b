-- `brundelak::functions::brundelak_sine` meets its contract.
use Rattle.brundelak_handed.specs.laws.Boundary.{handed}
use Rattle.brundelak.proofs.functions.brundelak_sine.Goals as goal

pub returns : goal.returns
returns c = handed c.sine.ensures c.hand.ensures

-- `brundelak::functions::brundelak_cosine` meets its contract.
use Rattle.brundelak_handed.specs.laws.Boundary.{handed}
use Rattle.brundelak.proofs.functions.brundelak_cosine.Goals as goal

pub returns : goal.returns
returns c = handed c.cosine.ensures c.hand.ensures

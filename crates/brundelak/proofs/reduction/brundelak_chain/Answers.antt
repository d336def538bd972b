-- `brundelak::reduction::brundelak_chain` meets its contract.
use Rattle.brundelak_handed.specs.laws.Boundary.{handed_two}
use Rattle.brundelak.proofs.reduction.brundelak_chain.Goals as goal

pub returns : goal.returns
returns c = handed_two c.chain.ensures c.hand_two.ensures

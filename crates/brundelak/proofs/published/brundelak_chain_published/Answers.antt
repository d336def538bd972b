-- `brundelak::published::brundelak_chain_published` meets its contract.
use Rattle.brundelak_handed.specs.laws.Boundary.{handed_two}
use Rattle.brundelak.proofs.published.brundelak_chain_published.Goals as goal

pub returns : goal.returns
returns c = handed_two c.chain.ensures c.hand_two.ensures

-- `rotation::vector_under` meets its contract.
use Rattle.rotation.proofs.vector_under.Goals as goal

pub returns : goal.returns
returns c = rw c.vector_of.ensures at c.applied.ensures

-- `elementary_arc::base_from` meets its contract.
use Rattle.elementary_arc.proofs.base_from.Goals as goal

pub returns : goal.returns
returns c = rw c.either-t.ensures at c.either.ensures

-- `precess::precessed_two` meets its contract.
use Rattle.elementary.specs.rules.Direction.{directions_of}
use Rattle.precess.specs.rules.Two.{precessed_two}
use Rattle.precess.proofs.precessed_two.Goals as goal

pub returns : goal.returns
unfolding precessed_two directions_of
returns c =
    rw c.towards-both.ensures at c.precessed_two_from.ensures

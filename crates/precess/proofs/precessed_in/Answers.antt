-- `precess::precessed_in` meets its contract.
use Rattle.precess.specs.rules.Equatorial.{precessed_in}
use Rattle.precess.proofs.precessed_in.Goals as goal

pub returns : goal.returns
unfolding precessed_in
returns c = rw c.toward.ensures at c.precessed_from.ensures

-- `nutation_ceiling::largest` meets its contract.
use Rattle.nutation_ceiling.specs.rules.Ceiling.{largest}
use Rattle.nutation_ceiling.proofs.largest.Goals as goal

pub returns : goal.returns
unfolding largest
returns c = rw (c.size-2.ensures, c.size.ensures)

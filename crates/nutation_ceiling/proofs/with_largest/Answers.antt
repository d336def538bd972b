-- `nutation_ceiling::with_largest` meets its contract.
use Rattle.nutation_ceiling.specs.rules.Ceiling.{with_largest}
use Rattle.nutation_ceiling.proofs.with_largest.Goals as goal

pub returns : goal.returns
unfolding with_largest
returns c =
    rw (c.oblq_largest-oblq.ensures, c.long_largest-long.ensures)

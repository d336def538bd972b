-- `chain::moved_under` meets its contract.
use Rattle.chain.specs.rules.Night.{moved_under}
use Rattle.chain.proofs.moved_under.Goals as goal

pub returns : goal.returns
unfolding moved_under
returns g c = rw (c.aberr_at.ensures, c.nutation_at.ensures) at c.moved.ensures

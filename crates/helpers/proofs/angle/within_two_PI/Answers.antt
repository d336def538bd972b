-- `helpers::angle::within_two_PI` meets its contract.
use Rattle.helpers.proofs.angle.within_two_PI.Goals as goal

pub returns : goal.returns
returns c = rw c.limited.ensures

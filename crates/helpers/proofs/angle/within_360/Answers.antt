-- `helpers::angle::within_360` meets its contract.
use Rattle.helpers.proofs.angle.within_360.Goals as goal

pub returns : goal.returns
returns c = rw c.limited.ensures

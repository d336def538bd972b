-- `aberr::sol_aberr_of` meets its contract.
use Rattle.aberr.specs.rules.Sun.{sol_aberr_of}
use Rattle.aberr.proofs.sol_aberr_of.Goals as goal

pub returns : goal.returns
unfolding sol_aberr_of
returns c = rw c.radians.ensures

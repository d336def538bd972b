-- `brundelak::reduction::brundelak_sol_aberr` meets its contract.
use Rattle.brundelak_handed.specs.laws.Boundary.{handed_radians}
use Rattle.brundelak.proofs.reduction.brundelak_sol_aberr.Goals as goal

pub returns : goal.returns
returns c = handed_radians c.sol_aberr.ensures c.hand_radians.ensures

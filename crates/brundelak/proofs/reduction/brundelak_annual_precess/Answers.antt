-- `brundelak::reduction::brundelak_annual_precess` meets its contract.
use Rattle.brundelak_handed.specs.laws.Boundary.{handed_two}
use Rattle.brundelak.proofs.reduction.brundelak_annual_precess.Goals as goal

pub returns : goal.returns
returns c = handed_two c.annual_precess.ensures c.hand_two.ensures

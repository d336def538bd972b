-- `brundelak::reduction::brundelak_nutation` meets its contract.
use Rattle.brundelak_handed.specs.laws.Boundary.{handed_two}
use Rattle.brundelak.proofs.reduction.brundelak_nutation.Goals as goal

pub returns : goal.returns
returns c = handed_two c.nutation.ensures c.hand_two.ensures

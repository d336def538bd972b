-- `brundelak::reduction::brundelak_nutation_ceiling` meets its contract.
use Rattle.brundelak_handed.specs.laws.Boundary.{handed_two}
use Rattle.brundelak.proofs.reduction.brundelak_nutation_ceiling.Goals as goal

pub returns : goal.returns
returns c = handed_two c.nutation_ceiling.ensures c.hand_two.ensures

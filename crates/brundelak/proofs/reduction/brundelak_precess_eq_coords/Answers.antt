-- `brundelak::reduction::brundelak_precess_eq_coords` meets its contract.
use Rattle.brundelak_handed.specs.laws.Boundary.{handed_two}
use Rattle.brundelak.proofs.reduction.brundelak_precess_eq_coords.Goals as goal

pub returns : goal.returns
returns c = handed_two c.precess_eq_coords.ensures c.hand_two.ensures

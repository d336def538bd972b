-- `brundelak::reduction::brundelak_precess_eq_coords_fk5` meets its contract.
use Rattle.brundelak_handed.specs.laws.Boundary.{handed_two}
use Rattle.brundelak.proofs.reduction.brundelak_precess_eq_coords_fk5.Goals as goal

pub returns : goal.returns
returns c = handed_two c.precess_eq_coords_FK5.ensures c.hand_two.ensures

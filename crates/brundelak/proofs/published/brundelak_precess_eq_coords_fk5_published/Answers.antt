-- `brundelak::published::brundelak_precess_eq_coords_fk5_published` meets its contract.
use Rattle.brundelak_handed.specs.laws.Boundary.{handed_two}
use Rattle.brundelak.proofs.published.brundelak_precess_eq_coords_fk5_published.Goals as goal

pub returns : goal.returns
returns c = handed_two c.precess_eq_coords_FK5.ensures c.hand_two.ensures

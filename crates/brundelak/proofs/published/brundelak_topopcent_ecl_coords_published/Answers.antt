-- `brundelak::published::brundelak_topopcent_ecl_coords_published` meets its contract.
use Rattle.brundelak_handed.specs.laws.Boundary.{handed_three}
use Rattle.brundelak.proofs.published.brundelak_topopcent_ecl_coords_published.Goals as goal

pub returns : goal.returns
returns c = handed_three c.topopcent_ecl_coords.ensures c.hand_three.ensures

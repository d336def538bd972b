-- `brundelak::angles::brundelak_rho_sin_cos_phi` meets its contract.
use Rattle.brundelak_handed.specs.laws.Boundary.{handed_two}
use Rattle.brundelak.proofs.angles.brundelak_rho_sin_cos_phi.Goals as goal

pub returns : goal.returns
returns c = handed_two c.rho_sin_cos_phi.ensures c.hand_two.ensures

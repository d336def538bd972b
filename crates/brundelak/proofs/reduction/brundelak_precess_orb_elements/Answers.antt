-- `brundelak::reduction::brundelak_precess_orb_elements` meets its contract.
use Rattle.brundelak_handed.specs.laws.Boundary.{handed_three}
use Rattle.brundelak.proofs.reduction.brundelak_precess_orb_elements.Goals as goal

pub returns : goal.returns
returns c = handed_three c.precess_orb_elements.ensures c.hand_three.ensures

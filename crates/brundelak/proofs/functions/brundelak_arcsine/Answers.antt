-- `brundelak::functions::brundelak_arcsine` meets its contract.
use Rattle.brundelak_handed.specs.laws.Boundary.{handed_radians}
use Rattle.brundelak.proofs.functions.brundelak_arcsine.Goals as goal

pub returns : goal.returns
returns c = handed_radians c.arcsine.ensures c.hand_radians.ensures

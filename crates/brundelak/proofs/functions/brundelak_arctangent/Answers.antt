-- `brundelak::functions::brundelak_arctangent` meets its contract.
use Rattle.brundelak_handed.specs.laws.Boundary.{handed_radians}
use Rattle.brundelak.proofs.functions.brundelak_arctangent.Goals as goal

pub returns : goal.returns
returns c = handed_radians c.arctangent.ensures c.hand_radians.ensures

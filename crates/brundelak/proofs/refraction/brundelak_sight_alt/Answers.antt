-- `brundelak::refraction::brundelak_sight_alt` meets its contract.
use Rattle.brundelak_handed.specs.laws.Boundary.{handed_degrees}
use Rattle.brundelak.proofs.refraction.brundelak_sight_alt.Goals as goal

pub returns : goal.returns
returns c = handed_degrees c.sight_alt.ensures c.hand_degrees.ensures

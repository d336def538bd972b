-- `brundelak::refraction::brundelak_plan_alt` meets its contract.
use Rattle.brundelak_handed.specs.laws.Boundary.{handed_degrees}
use Rattle.brundelak.proofs.refraction.brundelak_plan_alt.Goals as goal

pub returns : goal.returns
returns c = handed_degrees c.plan_alt.ensures c.hand_degrees.ensures

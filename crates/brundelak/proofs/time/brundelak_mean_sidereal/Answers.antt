-- `brundelak::time::brundelak_mean_sidereal` meets its contract.
use Rattle.brundelak_handed.specs.laws.Boundary.{handed_radians}
use Rattle.brundelak.proofs.time.brundelak_mean_sidereal.Goals as goal

pub returns : goal.returns
returns c = handed_radians c.mean_sidereal.ensures c.hand_radians.ensures

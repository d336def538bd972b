-- `brundelak::observer::brundelak_topocent_eq_coords` meets its contract.
use Rattle.brundelak_handed.specs.laws.Boundary.{handed_point}
use Rattle.brundelak.proofs.observer.brundelak_topocent_eq_coords.Goals as goal

pub returns : goal.returns
returns c = handed_point c.topocent_eq_coords.ensures c.hand_point.ensures

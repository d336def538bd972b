-- `brundelak_handed::hand_point` meets its contract.
use Rattle.brundelak_handed.specs.laws.Boundary.{handed_two}
use Rattle.brundelak_handed.proofs.hand_point.Goals as goal

pub returns : goal.returns
returns g c = handed_two c.point_numbers.ensures c.hand_two.ensures

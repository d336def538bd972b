-- `brundelak_handed::hand_ecliptic` meets its contract.
use Rattle.brundelak_handed.specs.laws.Boundary.{handed_two}
use Rattle.brundelak_handed.proofs.hand_ecliptic.Goals as goal

pub returns : goal.returns
returns g c = handed_two c.ecliptic_numbers.ensures c.hand_two.ensures
